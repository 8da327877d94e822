-- A command read word by word: a name before its colon (`before_colon_push`, `before_colon_none`), numbers one after the other
-- (`found_all`, `found_other`), and the whole line.
-- Assumes nothing.
use Rattle.std.proofs.Common.{◌≡◌, ℕ, ◌+◌, ◌<◌, ◌≤◌, Bool, true, false, cond, eqb, List, [], ◌∷◌, ◌++◌, ◌⊎◌, inl, inr, map, length, get_or, drop, Some, None, codes, Option, sym, refl, ap, ◌∙◌, subst, append_assoc, append-nil, arith, eqb-true}
use Rattle.std.proofs.lemmas.Option.{cond_some}
use Rattle.std.proofs.lemmas.Slice.Eq.{bytes_eq-Decides}
use Rattle.std.proofs.lemmas.List.{at_drop_more, at_drop_all, map_push}
use Rattle.std.proofs.lemmas.Iterator.Adapters.{option_map_id}
use Rattle.std.specs.Option.{option_and_then, option_map}
use Rattle.std.specs.Str.{bytes_eq}
use Rattle.console.specs.Commands.{Holds, SaysLetter, capped_reading}
use Rattle.console.specs.Numeral.{number_in, capped}
use Rattle.console.specs.Reading.{Reading, reading, command_words, letter_words, letter_of, line_words, before_colon, in_front, numbers, blank, letter, current_line, unreadable}
use Rattle.console.specs.Words.{words}
use Rattle.console.specs.declared.numbers.Numbers.{Numbers}

-- ---- what may be missing

module _ {A B : Type 0} (f : A → B) where
  pub mapped_some : (o : Option A) (y : B) → option_map f o ≡ Some y → (x : A) × (o ≡ Some x) × (f x ≡ y)
  mapped_some None y e = cc
  mapped_some (Some x) y e = (x, refl, cc)

  pub mapped_none : (o : Option A) → option_map f o ≡ None → o ≡ None
  mapped_none None e = refl
  mapped_none (Some x) e = cc

-- ---- the colon behind a name

pub before_colon_push : (d : List ℕ) → before_colon (d ++ (58 ∷ [])) ≡ Some d
unfolding before_colon
before_colon_push [] = refl
before_colon_push (c ∷ []) = refl
before_colon_push (c ∷ e ∷ d) = ap (option_map (λ front. c ∷ front)) (before_colon_push (e ∷ d))

pub before_colon_some : (w d : List ℕ) → before_colon w ≡ Some d → w ≡ d ++ (58 ∷ [])
unfolding before_colon
before_colon_some [] d e = cc
before_colon_some (c ∷ []) d e = let so = cond_some (eqb c 58) [] d e in rw (← so.1, eqb-true c 58 so.0)
before_colon_some (c ∷ f ∷ w) d e =
    let front = mapped_some (λ front. c ∷ front) (before_colon (f ∷ w)) d e in
    rw (← front.2) (ap (λ t. c ∷ t) (before_colon_some (f ∷ w) front.0 front.1))

pub before_colon_none : (w : List ℕ) → ((d : List ℕ) → w ≡ d ++ (58 ∷ []) → ⊥) → before_colon w ≡ None
before_colon_none w never = either (before_colon w) refl
  where
    either : (o : Option (List ℕ)) → before_colon w ≡ o → before_colon w ≡ None
    either None e = e
    either (Some d) e = absurd (never d (before_colon_some w d e))

-- ---- numbers, one word after the other

-- the numbers done, and those behind them, if these could be read
abbrev pub behind : List ℕ → Option (List ℕ) → Option (List ℕ)
behind done rest = option_map (λ ns. done ++ ns) rest

behind_more : (done : List ℕ) (n : ℕ) (rest : Option (List ℕ)) → behind done (in_front (Some n) rest) ≡ behind (done ++ (n ∷ [])) rest
unfolding in_front
behind_more done n None = refl
behind_more done n (Some ns) = ap Some (sym (append_assoc done (n ∷ []) ns))

-- the numbers found so far are those that the first k of the words ws are
pub record Found (ws : List (List ℕ)) (found : Numbers) (k : ℕ) : Type 0 where
  pub done : List ℕ
  pub counted : found.count ≡ k
  pub kept : Holds found (map capped done)
  pub left : numbers ws ≡ behind done (numbers (drop k ws))

pub found_none : (ws : List (List ℕ)) (found : Numbers) → Holds found [] → Found ws found 0
found_none ws found holds = record { done = []; counted = holds.count; kept = holds; left = sym (option_map_id (numbers ws)) }

module _ (ws : List (List ℕ)) (found : Numbers) (k : ℕ) (so_far : Found ws found k) where
  -- where the next word is w
  module _ (w : List ℕ) (inside : k < length ws) (next : w ≡ get_or ws k w) where
    at_word : (o : Option ℕ) → number_in w ≡ o → numbers ws ≡ behind so_far.done (in_front o (numbers (drop (k + 1) ws)))
    unfolding numbers
    at_word o is =
        so_far.left ∙ at_drop_more (λ rest. behind so_far.done (numbers rest)) ws k w inside
        ∙ ap (λ o. behind so_far.done (in_front o (numbers (drop (k + 1) ws)))) (ap number_in (sym next) ∙ is)

    pub found_more : (n : ℕ) (x : Numbers) → Some n ≡ option_map capped (number_in w) → x.count ≡ found.count + 1 → ((ns : List ℕ) → Holds found ns → Holds x (ns ++ (n ∷ []))) → Found ws x (k + 1)
    found_more n x read counted pushed =
        let number = mapped_some capped (number_in w) n (sym read) in
        let these = ap (λ m. map capped so_far.done ++ (m ∷ [])) (sym number.2) ∙ sym (map_push capped so_far.done number.0) in
        record {
          done = so_far.done ++ (number.0 ∷ []);
          counted = counted ∙ ap (λ m. m + 1) so_far.counted;
          kept = subst (Holds x) these (pushed (map capped so_far.done) so_far.kept);
          left = at_word (Some number.0) number.1 ∙ behind_more so_far.done number.0 (numbers (drop (k + 1) ws));
        }

    pub found_other : None ≡ option_map capped (number_in w) → numbers ws ≡ None
    unfolding in_front
    found_other other = at_word None (mapped_none capped (number_in w) (sym other))

  pub found_all : length ws ≤ k → numbers ws ≡ Some so_far.done
  unfolding numbers
  found_all end = so_far.left ∙ at_drop_all (λ rest. behind so_far.done (numbers rest)) ws k end ∙ ap Some (append-nil so_far.done)

-- ---- a letter

letter_of-capped : (name : Option ℕ) (bytes : Option (List ℕ)) → capped_reading (letter_of name bytes) ≡ letter_of (option_map capped name) (option_map (map capped) bytes)
unfolding letter_of
letter_of-capped None bytes = refl
letter_of-capped (Some n) None = refl
letter_of-capped (Some n) (Some bs) = refl

pub letter_capped : (ws : List (List ℕ)) (w : List ℕ) (more : List (List ℕ)) → ws ≡ w ∷ more
    → capped_reading (letter_words ws) ≡ letter_of (option_map capped (option_and_then number_in (before_colon w))) (option_map (map capped) (numbers more))
unfolding letter_words
letter_capped ws w more cut = ap (λ l. capped_reading (letter_words l)) cut ∙ letter_of-capped (option_and_then number_in (before_colon w)) (numbers more)

-- what a letter says, by what could be read of it
module _ (r : Reading) (name : Option ℕ) (bytes : Option (List ℕ)) (is : r ≡ letter_of name (option_map (map capped) bytes)) where
  pub says_no_name : None ≡ name → SaysLetter None r
  unfolding letter_of
  says_no_name none = rw (is, ← none) refl

  pub says_no_bytes : (n : ℕ) → Some n ≡ name → bytes ≡ None → SaysLetter None r
  unfolding letter_of
  says_no_bytes n named none = rw (is, ← named, none) refl

  pub says_letter : (n : ℕ) (x : Numbers) (ns : List ℕ) → Some n ≡ name → bytes ≡ Some ns → Holds x (map capped ns) → SaysLetter (Some (record { name = n; bytes = x })) r
  unfolding letter_of
  says_letter n x ns named these holds = (map capped ns, rw (is, ← named, these) refl, holds)

-- ---- which command it is

pub command_letter : (w : List ℕ) (ws : List (List ℕ)) → w ≡ codes "letter" → command_words (w ∷ ws) ≡ letter_words ws
unfolding command_words
command_letter w ws is = rw ((bytes_eq-Decides w (codes "letter")).1 is)

-- what follows of any command follows of what was read
pub command_cases :
    {B : Type 0} (w : List ℕ) (ws : List (List ℕ)) (r : Reading) → command_words (w ∷ ws) ≡ r → (w ≡ codes "letter" → letter_words ws ≡ r → B)
    → (w ≡ codes "line" → line_words ws ≡ r → B) → (unreadable ≡ r → B) → B
unfolding command_words
command_cases {B} w ws r e of-letter of-line other = first (bytes_eq w (codes "letter")) refl e
  where
    second : (b : Bool) → bytes_eq w (codes "line") ≡ b → cond b (line_words ws) unreadable ≡ r → B
    second true is e = of-line ((bytes_eq-Decides w (codes "line")).0 is) e
    second false is e = other e

    first : (b : Bool) → bytes_eq w (codes "letter") ≡ b → cond b (letter_words ws) (cond (bytes_eq w (codes "line")) (line_words ws) unreadable) ≡ r → B
    first true is e = of-letter ((bytes_eq-Decides w (codes "letter")).0 is) e
    first false is e = second (bytes_eq w (codes "line")) refl e

-- what a letter's words say, and those of `line`
pub letter_says : (ws : List (List ℕ)) → (letter_words ws ≡ unreadable) ⊎ ((n : ℕ) × (bs : List ℕ) × (letter_words ws ≡ letter n bs))
unfolding letter_words letter_of
letter_says [] = inl refl
letter_says (w ∷ ws) = each (option_and_then number_in (before_colon w)) (numbers ws)
  where
    each : (name : Option ℕ) (bytes : Option (List ℕ)) → (letter_of name bytes ≡ unreadable) ⊎ ((n : ℕ) × (bs : List ℕ) × (letter_of name bytes ≡ letter n bs))
    each None bytes = inl refl
    each (Some n) None = inl refl
    each (Some n) (Some bs) = inr (n, bs, refl)

pub line_says : (ws : List (List ℕ)) → (line_words ws ≡ unreadable) ⊎ ((ws ≡ []) × (line_words ws ≡ current_line))
unfolding line_words
line_says [] = inr (refl, refl)
line_says (w ∷ ws) = inl refl

-- ---- the whole line

pub reading_none : (t : List ℕ) → length t ≡ 0 → reading t ≡ blank
unfolding reading
reading_none [] none = refl
reading_none (c ∷ cs) none = absurd (omega arith)

pub reading_some : (t : List ℕ) → (length t ≡ 0 → ⊥) → reading t ≡ command_words (words t)
unfolding reading
reading_some [] some = absurd (some refl)
reading_some (c ∷ cs) some = refl
