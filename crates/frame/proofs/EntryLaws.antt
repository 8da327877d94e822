-- What holds of a room that a line is written to.
-- Rests on the laws of lists. Assumes nothing else.
use Rattle.std.proofs.Common.{◌≡◌, ℕ, ◌+◌, ◌<◌, Bool, false, List, [], ◌∷◌, ◌++◌, map, length, get_or, take, drop, set, sym, ap, ◌∙◌, arith}
use Rattle.std.proofs.lemmas.List.{append_assoc, length-map, length-take-le, drop_more, map_more, set_at}
use Rattle.bits.specs.Bits.{bit}

-- one bit more is written
pub front_more :
    (bits : List Bool) (room : List ℕ) (i : ℕ) → i < length bits → i < length room →
    set (map bit (take i bits) ++ drop i room) i (bit (get_or bits i false)) ≡ map bit (take (i + 1) bits) ++ drop (i + 1) room
front_more bits room i h k =
    let written : length (map bit (take i bits)) ≡ i = length-map (take i bits) bit ∙ length-take-le i bits (omega arith) in
    ap (λ r. set (map bit (take i bits) ++ r) i (bit (get_or bits i false))) (drop_more room i 0 k)
    ∙ set_at (map bit (take i bits)) (get_or room i 0) (drop (i + 1) room) (bit (get_or bits i false)) i written
    ∙ sym (append_assoc (map bit (take i bits)) (bit (get_or bits i false) ∷ []) (drop (i + 1) room))
    ∙ ap (λ r. r ++ drop (i + 1) room) (sym (map_more bit bits i false h))
