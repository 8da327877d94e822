-- Before and behind the length's bits nothing is said of it; among them a bit doubles what is known, and what is left counts by twos.
use Rattle.std.proofs.Common.{◌≡◌, ◌+◌, ◌-◌, ◌*◌, ◌%◌, ◌^◌, ◌<◌, ◌≤◌, ◌⊎◌, [], ◌∷◌, ◌++◌, length, sym, ap, ◌∙◌, ap₂, inl, inr, arith, refl, Bool, true, false, leb, MatchOption, ℕ}
use Rattle.std.specs.Bool.{then_some}
use Rattle.std.proofs.lemmas.Nat.{one_shl}
use Rattle.std.proofs.lemmas.Bool.{leb-false, leb-true}
use Rattle.bits.proofs.BitLaws.{bool_byte-is}
use Rattle.reader.proofs.PrefixLaws.{count_is, length_before, length_behind, length-bit, least_behind, least_bit}
use Rattle.reader.specs.Beginning.{least_length}
use Rattle.reader.specs.Hearing.{row}
use Rattle.reader.specs.Reading.{length_in}
use Rattle.reader.proofs.prefix.Prefix.len_with.Goals as goal
use Rattle.reader.proofs.prefix.Prefix.len_with.Goals.{After-from}

pub returns-then-self-lt-ID : goal.returns-then-self-lt-ID
returns-then-self-lt-ID c = either c.then-self-lt-ID.either
  where
    either : (c.args.self.count < 11) ⊎ ((11 ≤ c.args.self.count) × (15 ≤ c.args.self.count))
        → (c.args.self.len ≡ length_in (row c.args.self ++ (c.args.bit ∷ []))) × (least_length (row c.args.self ++ (c.args.bit ∷ [])) ≤ 8)
    either (inl before) =
        let (same, few) = length_before (row c.args.self) c.args.bit (omega (arith, count_is c.args.self)) in
        (c.args.self.counted ∙ same, few)
    either (inr (some, behind)) =
        let long : 15 ≤ length (row c.args.self) = omega (arith, count_is c.args.self) in
        (c.args.self.counted ∙ length_behind (row c.args.self) c.args.bit long, omega (arith, least_behind (row c.args.self) c.args.bit long, c.args.self.counted, c.args.self.few))

-- the length and the least that it can be, once the bit is there
doubled : (c : After-from) → 2 * c.args.self.len + c.from.result ≡ length_in (row c.args.self ++ (c.args.bit ∷ []))
doubled c =
    ap₂ (λ k b. 2 * k + b) c.args.self.counted (c.from.ensures ∙ bool_byte-is c.args.bit)
    ∙ sym (length-bit (row c.args.self) c.args.bit (omega (arith, count_is c.args.self, c.if-self-lt-ID.false)) (omega (arith, count_is c.args.self, c.if-self-ge-HEADER.false)))

least : (c : After-from) → (2 * c.args.self.len + c.from.result) * (1 * 2 ^ (14 - c.args.self.count) % 2 ^ 32) ≡ least_length (row c.args.self ++ (c.args.bit ∷ []))
least c =
    ap₂ (λ k t. k * t) (doubled c) (one_shl (14 - c.args.self.count) 32 (omega arith) ∙ ap (λ n. 2 ^ (14 - n)) (sym (count_is c.args.self)))
    ∙ sym (least_bit (row c.args.self) c.args.bit (omega (arith, count_is c.args.self, c.if-self-lt-ID.false)) (omega (arith, count_is c.args.self, c.if-self-ge-HEADER.false)))

kept : (n k : ℕ) → MatchOption (then_some (leb n 8) k) (8 < n) (λ x. (x ≡ k) × (n ≤ 8))
kept n k = go (leb n 8) refl
  where
    go : (t : Bool) → leb n 8 ≡ t → MatchOption (then_some t k) (8 < n) (λ x. (x ≡ k) × (n ≤ 8))
    go true is = (refl, leb-true n 8 is)
    go false is = leb-false n 8 is

pub returns : goal.returns
returns c =
    let at = (goal.at.returns c).After-from in
    rw (c.then_some.ensures, least at, doubled at) (kept _ _)
