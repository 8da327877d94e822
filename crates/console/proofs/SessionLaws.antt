-- What becomes of a line: what is answered and kept after a letter, of which capping the numbers changes nothing, since a number
-- that is capped is too large in any case (`after_good`, `after_bad`), and after `line` (`after_line`); and which letter is the current
-- one after any lines (`line_of_last`).
-- Assumes nothing.
use Rattle.std.proofs.Common.{◌≡◌, ℕ, zero, suc, ◌-◌, ◌^◌, ◌<◌, cond, ltb, List, [], ◌∷◌, ◌++◌, map, length, take, set, replicate, Some, None, Ok, Err, Option, Result, sym, refl, ap, ◌∙◌, ap₂, arith}
use Rattle.std.proofs.lemmas.List.{get_or-set_same, length-map, length-set}
use Rattle.std.proofs.lemmas.Bool.Decides.{nat_tests}
use Rattle.std.proofs.lemmas.Grind.{common_steps}
use Rattle.frame.specs.Contents.{frame_data}
use Rattle.frame.specs.declared.frame.Frame.{Frame}
use Rattle.frame.specs.declared.line.Line.{Line}
use Rattle.console.proofs.RefusalLaws.{bad_byte_none, bad_letter_none}
use Rattle.console.specs.Answers.{answer, line_reply, refused, reply, reply_of}
use Rattle.console.specs.Commands.{Holds, Says, capped_reading}
use Rattle.console.specs.Laws.{RefusedSame, LineOfLast, after_all, last_good, newer}
use Rattle.console.specs.Numeral.{capped}
use Rattle.console.specs.Reading.{Reading, blank, letter, current_line, unreadable}
use Rattle.console.specs.Refusals.{Judged, bad_byte, bad_letter}
use Rattle.console.specs.Sessions.{State, current_letter, kept_letter, no_letters, unless_refused, after}
use Rattle.console.specs.declared.command.Command.TheVariants as Command
use Rattle.console.specs.declared.command.Command.TheVariants.{Blank, Letter}
use Rattle.console.specs.declared.letter.Letter as Declared
use Rattle.console.specs.declared.refusal.Refusal.{Refusal}
use Rattle.console.specs.declared.refusal.Refusal.TheVariants.{Name, Count, Byte, Unreadable}

-- ---- capped numbers

capped_small : (n : ℕ) → n < 2 ^ 64 → capped n ≡ n
unfolding capped
capped_small n h = omega arith

ltb_capped : (m n : ℕ) → m < 2 ^ 64 - 1 → ltb m (capped n) ≡ ltb m n
unfolding capped
ltb_capped m n h = grind (arith, nat_tests)

bad_byte-capped : (i : ℕ) (bs : List ℕ) → bad_byte i (map capped bs) ≡ bad_byte i bs
unfolding bad_byte
bad_byte-capped i [] = refl
bad_byte-capped i (x ∷ xs) =
    let same = ltb_capped 255 x (omega arith) in
    let rest = bad_byte-capped (suc i) xs in
    λ j. cond (same j) (Some (Byte i)) (rest j)

bad_letter-capped : (n : ℕ) (bs : List ℕ) → bad_letter (capped n) (map capped bs) ≡ bad_letter n bs
unfolding bad_letter
bad_letter-capped n bs =
    let name = ltb_capped 2047 n (omega arith) in
    let long = length-map bs capped in
    let rest = bad_byte-capped 0 bs in
    λ j. cond (name j) (Some Name) (cond (ltb 8 (long j)) (Some (Count (long j))) (rest j))

-- ---- good letters

good_bytes_same : (i : ℕ) (bs : List ℕ) → bad_byte i bs ≡ None → map capped bs ≡ bs
good_bytes_same i [] none = refl
good_bytes_same i (x ∷ xs) none =
    let parts = bad_byte_none i x xs none in
    let same = capped_small x (omega arith) in
    let rest = good_bytes_same (suc i) xs parts.1 in
    λ j. same j ∷ rest j

good_letter_same : (n : ℕ) (bs : List ℕ) (k : State) → bad_letter n bs ≡ None → kept_letter (capped n) (map capped bs) k ≡ kept_letter n bs k
good_letter_same n bs k none =
    let parts = bad_letter_none n bs none in
    let name = capped_small n (omega arith) in
    let bytes = good_bytes_same 0 bs parts.2 in
    λ j. kept_letter (name j) (bytes j) k

-- ---- the table of letters

pub same_state : {a b : List (Option (ℕ × List ℕ))} {m n : Option ℕ} → a ≡ b → m ≡ n → ◌≡◌ {A = State} (record { kept = a; current = m }) (record { kept = b; current = n })
same_state p q = λ j. record { kept = p j; current = q j }

pub kept_at : (k : State) (place name : ℕ) (bs : List ℕ) → place ≡ name → ◌≡◌ {A = State} (record { kept = set k.kept place (Some (name, bs)); current = Some place }) (kept_letter name bs k)
kept_at k place name bs e = same_state (ap (λ p. set k.kept p (Some (name, bs))) e) (ap Some e)

pub map_replicate : {A B : Type 0} (f : A → B) (n : ℕ) (x : A) → map f (replicate n x) ≡ replicate n (f x)
map_replicate f zero x = refl
map_replicate f (suc n) x = ap (λ l. f x ∷ l) (map_replicate f n x)

-- an empty list made longer is filled up
pub filled : {A : Type 0} (old new : List A) (len n : ℕ) (x : A) → old ≡ [] → len ≡ 0 → new ≡ take n old ++ replicate (n - len) x → new ≡ replicate n x
filled old new len n x none zero-long e = grind (arith, common_steps)

-- ---- what becomes of a line

-- a and new are the answer to what was read as r in the line with the place p, and what is kept then, where k was kept
pub record Becomes (p : ℕ) (r : Reading) (k : State) (a : Result (Option Line) Refusal) (new : State) : Type 0 where
  pub answered : reply a ≡ answer p r k
  pub kept : new ≡ after r k

pub after_blank : (p : ℕ) (r : Reading) (k : State) → Says (Some Blank) (capped_reading r) → Becomes p r k (Ok None) k
unfolding answer after
after_blank p blank k says = record { answered = refl; kept = refl }
after_blank p (letter n bs) k says = cc
after_blank p current_line k says = cc
after_blank p unreadable k says = cc

pub after_unreadable : (p : ℕ) (r : Reading) (k : State) → Says None (capped_reading r) → Becomes p r k (Err (Unreadable p)) k
unfolding answer after
after_unreadable p blank k says = cc
after_unreadable p (letter n bs) k says = cc
after_unreadable p current_line k says = cc
after_unreadable p unreadable k says = record { answered = refl; kept = refl }

pub after_line : (p : ℕ) (r : Reading) (k : State) (a : Result (Option Line) Refusal) → Says (Some Command.Line) (capped_reading r) → reply a ≡ line_reply p (current_letter k) → Becomes p r k a k
unfolding answer after
after_line p blank k a says is = cc
after_line p (letter n bs) k a says is = cc
after_line p current_line k a says is = record { answered = is; kept = refl }
after_line p unreadable k a says is = cc

-- a letter that was read, and judged with its numbers capped
module _ (p : ℕ) (k : State) (x : Declared.Letter) where
  pub after_good : (r : Reading) (f : Frame) (new : State) → Says (Some (Letter x)) (capped_reading r) → ((ns : List ℕ) → Holds x.bytes ns → Judged x.name ns (Ok f)) → new ≡ kept_letter f.id (frame_data f) k
      → Becomes p r k (Ok None) new
  unfolding answer after
  after_good blank f new (ns, is, holds) judged keeps = cc
  after_good current_line f new (ns, is, holds) judged keeps = cc
  after_good unreadable f new (ns, is, holds) judged keeps = cc
  after_good (letter n bs) f new (ns, is, holds) judged keeps =
      let named : x.name ≡ capped n = cc in
      let these : ns ≡ map capped bs = cc in
      let good : bad_letter n bs ≡ None = sym (bad_letter-capped n bs) ∙ sym (ap₂ bad_letter named these) ∙ (judged ns holds).0 in
      let same : kept_letter f.id (frame_data f) k ≡ kept_letter n bs k =
      ap (λ l. kept_letter l.0 l.1 k) ((judged ns holds).1) ∙ ap₂ (λ m ms. kept_letter m ms k) named these ∙ good_letter_same n bs k good in
      record { answered = ap reply_of (sym good); kept = keeps ∙ same ∙ sym (ap (λ o. unless_refused o (kept_letter n bs k) k) good) }

  pub after_bad : (r : Reading) (e : Refusal) → Says (Some (Letter x)) (capped_reading r) → ((ns : List ℕ) → Holds x.bytes ns → Judged x.name ns (Err e)) → Becomes p r k (Err e) k
  unfolding answer after
  after_bad blank e (ns, is, holds) judged = cc
  after_bad current_line e (ns, is, holds) judged = cc
  after_bad unreadable e (ns, is, holds) judged = cc
  after_bad (letter n bs) e (ns, is, holds) judged =
      let named : x.name ≡ capped n = cc in
      let these : ns ≡ map capped bs = cc in
      let bad : bad_letter n bs ≡ Some e = sym (bad_letter-capped n bs) ∙ sym (ap₂ bad_letter named these) ∙ judged ns holds in
      record { answered = ap reply_of (sym bad); kept = sym (ap (λ o. unless_refused o (kept_letter n bs k) k) bad) }

-- ---- laws

refused_letter : (o : Option Refusal) (x : Refusal) (new k : State) → reply_of o ≡ refused x → unless_refused o new k ≡ k
refused_letter None x new k e = cc
refused_letter (Some y) x new k e = refl

pub refused_same : RefusedSame
unfolding answer after
refused_same p blank k x e = refl
refused_same p (letter n bs) k x e = refused_letter (bad_letter n bs) x (kept_letter n bs k) k e
refused_same p current_line k x e = refl
refused_same p unreadable k x e = refl

-- a good letter is the current one, and what isn't good leaves it as it was; the table stays whole
module _ (n : ℕ) (bs : List ℕ) (k : State) (whole : length k.kept ≡ 2048) where
  kept_whole : (o : Option Refusal) → length (unless_refused o (kept_letter n bs k) k).kept ≡ 2048
  kept_whole None = length-set k.kept n (Some (n, bs)) ∙ whole
  kept_whole (Some x) = whole

  kept_current :
      (o : Option Refusal) → bad_letter n bs ≡ o → current_letter (unless_refused o (kept_letter n bs k) k) ≡ unless_refused o (Some (n, bs)) (current_letter k)
  kept_current None good = get_or-set_same k.kept n (Some (n, bs)) None (omega (arith, whole, (bad_letter_none n bs good).0))
  kept_current (Some x) bad = refl

after_whole : (r : Reading) (k : State) → length k.kept ≡ 2048 → length (after r k).kept ≡ 2048
unfolding after
after_whole blank k whole = whole
after_whole (letter n bs) k whole = kept_whole n bs k whole (bad_letter n bs)
after_whole current_line k whole = whole
after_whole unreadable k whole = whole

after_current : (r : Reading) (k : State) → length k.kept ≡ 2048 → current_letter (after r k) ≡ newer r (current_letter k)
unfolding after newer
after_current blank k whole = refl
after_current (letter n bs) k whole = kept_current n bs k whole (bad_letter n bs) refl
after_current current_line k whole = refl
after_current unreadable k whole = refl

after_all_current : (rs : List Reading) (k : State) → length k.kept ≡ 2048 → current_letter (after_all rs k) ≡ last_good rs (current_letter k)
unfolding after_all last_good
after_all_current [] k whole = refl
after_all_current (r ∷ rs) k whole = after_all_current rs (after r k) (after_whole r k whole) ∙ ap (last_good rs) (after_current r k whole)

pub line_of_last : LineOfLast
unfolding answer
line_of_last p rs = ap (line_reply p) (after_all_current rs no_letters refl)
