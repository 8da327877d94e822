-- A letter is read if its name and all its bytes are.
use Rattle.std.proofs.Common.{◌≡◌, ℕ, ◌<◌, Bool, false, eqb, List, [], ◌∷◌, length, get_or, drop, Some, Option, Bor, sym, ap, arith, rules, tests}
use denote.Param.Members.{Mut}
use Rattle.std.specs.Fn.{CalledAt}
use Rattle.std.specs.Slice.Iter.{split_callee, split_done, split_rest, split_steps}
use Rattle.std.specs.declared.slice.Split.{Split}
use Rattle.std.proofs.lemmas.Iterator.{YieldsList}
use Rattle.std.proofs.lemmas.Iterator.Consumers.{YieldsList-at, YieldsList-turn, YieldsList-end}
use Rattle.std.proofs.lemmas.Iterator.Splits.{YieldsList-from_slice_split}
use Rattle.std.proofs.lemmas.List.{length_push, length-drop}
use Rattle.std.proofs.lemmas.List.Splits.{length-slice_split}
use Rattle.std.proofs.lemmas.List.Sums.{count_by-le-length}
use Rattle.console.proofs.ReadingLaws.{found_all, found_more, found_none, found_other, letter_capped, says_letter, says_no_bytes, says_no_name}
use Rattle.console.specs.Words.{words}
use Rattle.console.proofs.command.read_letter.Goals as goal
use Rattle.console.proofs.command.read_letter.Goals.{In_ok-next, In-Some}

-- what an iterator gives once it gave one item
behind_first : {S A B : Type 0} {steps : S → Option A → S → Type 0} {v : A → B} {ys : List B} (s : S) (x : A) (t : S) → steps s (Some x) t → YieldsList steps v s ys → (ys ≡ v x ∷ drop 1 ys) × YieldsList steps v t (drop 1 ys)
behind_first {ys = []} s x t h e = absurd (e.runs x t h)
behind_first {ys = y ∷ ys} s x t h e = let so = e.runs.1 x t h in (ap (λ z. z ∷ ys) (sym so.0), record { runs = so.1 })

-- the words of a text that is cut at its spaces: the first, and what is given once it was
words_of : {F : Type 0} {g : Mut F (Bor ℕ × Unit {0}) Bool} {f : F} (text : List ℕ) (s : Split ℕ F) (w : Bor (List ℕ)) (t : Split ℕ F) → split_steps g s (Some w) t → split_rest s ≡ text → split_done s ≡ false → split_callee s ≡ f
    → ((x : ℕ) (b : Bool) (q : F) → CalledAt g f x b q → (q ≡ f) × (b ≡ eqb x 32)) → (words text ≡ w.now ∷ drop 1 (words text)) × YieldsList (split_steps g) (λ x. x.now) t (drop 1 (words text))
words_of text s w t step rest done callee tests_space =
    behind_first s w t step (YieldsList-from_slice_split _ (λ b. eqb b 32) text rest done callee tests_space)

name_first : (c : In_ok-next) → words c.args.text.now ≡ c.in_ok-next.field-0.now ∷ drop 1 (words c.args.text.now)
name_first c =
    let split = c.split-words in
    (words_of _ split.result c.in_ok-next.field-0 c.next.new.self c.in_ok-next.ensures.steps split.ensures.rest split.ensures.done split.ensures.closure (λ x r q k. search (rules, tests))).0

-- each turn has the next word behind the name
word_next : (c : In-Some) → let ws = drop 1 (words c.args.text.now) in (length c.loop-word.yielded < length ws) × (c.in-Some.word.now ≡ get_or ws (length c.loop-word.yielded) c.in-Some.word.now)
word_next c =
    let split = c.split-words in
    let given = words_of _ split.result c.in_ok-next.field-0 c.next.new.self c.in_ok-next.ensures.steps split.ensures.rest split.ensures.done split.ensures.closure (λ x r q k. search (rules, tests)) in
    YieldsList-turn (YieldsList-at c.into_iter-word-iterator.ensures.into_iter_gives given.1) c.loop-word.yielded _ c.loop-word.yielded_by _ _ c.in-Some.word c.in-Some.is c.next-in-loop-word.ensures.steps

pub returns-in_err-name : goal.returns-in_err-name
returns-in_err-name c =
    rw c.from_residual-in_err-name.ensures (says_no_name _ _ _ (letter_capped _ _ _ (name_first (goal.at.returns-in_err-name c).In_ok-next)) c.in_err-name.ensures)

pub loop-word-init : goal.loop-word-init
loop-word-init c = found_none _ _ c.new-bytes.ensures

pub returns-in_err-read_number : goal.returns-in_err-read_number
returns-in_err-read_number c =
    let so = goal.at.returns-in_err-read_number c in
    let next = word_next so.In-Some in
    let other = found_other _ _ _ c.loop-word.invariant _ next.0 next.1 c.in_err-read_number.ensures in
    rw c.from_residual-in_err-read_number.ensures (says_no_bytes _ _ _ (letter_capped _ _ _ (name_first so.In_ok-next)) _ c.in_ok-name.ensures other)

-- there are no more words than bytes
pub push-requires : goal.push-requires
push-requires c =
    let text = c.args.text.now in
    let next = word_next (goal.at.push-requires c).In-Some in
    omega (arith, c.loop-word.invariant.counted, next.0, length-drop 1 (words text), length-slice_split (λ b. eqb b 32) text, count_by-le-length (λ b. eqb b 32) text)

pub loop-word-preserved : goal.loop-word-preserved
loop-word-preserved c =
    let next = word_next (goal.at.loop-word-preserved c).In-Some in
    rw length_push (found_more _ _ _ c.loop-word.invariant _ next.0 next.1 _ _ c.in_ok-read_number.ensures c.push.ensures.count c.push.ensures.holds)

pub returns : goal.returns
returns c =
    let split = c.split-words in
    let given = words_of _ split.result c.in_ok-next.field-0 c.next.new.self c.in_ok-next.ensures.steps split.ensures.rest split.ensures.done split.ensures.closure (λ x r q k. search (rules, tests)) in
    let end = YieldsList-end (YieldsList-at c.into_iter-word-iterator.ensures.into_iter_gives given.1) c.loop-word.yielded _ c.loop-word.yielded_by _ _ c.in-None.is c.next-in-loop-word.ensures.steps in
    let all = found_all _ _ _ c.loop-word.invariant (omega (arith, end.1)) in
    says_letter _ _ _ (letter_capped _ _ _ given.0) _ _ _ c.in_ok-name.ensures all c.loop-word.invariant.kept
