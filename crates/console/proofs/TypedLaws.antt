-- What is typed is read (`typed_is_read`), and what is read was typed (`read_was_typed`, `line_was_typed`, `blank_is_empty`): the
-- console's language, from outside.
-- Assumes nothing.
use Rattle.std.proofs.Common.{◌≡◌, ℕ, true, false, inl, inr, eqb, List, [], ◌∷◌, ◌++◌, map, length, Some, None, codes, Option, ◌≢◌, sym, refl, ap, ◌∙◌, ap₂, arith, ne_eqb}
use Rattle.std.proofs.lemmas.Bool.{and_parts, leb-true}
use Rattle.std.proofs.lemmas.Option.{cond_some, option_and_then_some}
use Rattle.std.proofs.lemmas.List.Elements.{All-from_recursion, All-weaker}
use Rattle.std.proofs.lemmas.List.Splits.{join_with_byte-slice_split, slice_split_at, slice_split_none}
use Rattle.std.specs.Char.{is_ascii_digit}
use Rattle.std.specs.Option.{option_and_then}
use Rattle.std.specs.List.{All, AllByRecursion}
use Rattle.std.specs.Str.{all_ascii_digits}
use Rattle.console.proofs.ReadingLaws.{mapped_some, before_colon_push, before_colon_some, command_cases, command_letter, letter_says, line_says, reading_some}
use Rattle.console.specs.Laws.{SpacedWords, WordsSpaced, BlankIsEmpty, Unspaced, IsNumeral, typed, TypedIsRead, ReadWasTyped, LineWasTyped}
use Rattle.console.specs.Numeral.{numeral, value, number_in}
use Rattle.console.specs.Reading.{reading, command_words, letter_words, letter_of, line_words, before_colon, in_front, numbers, Reading, blank, letter, current_line, unreadable}
use Rattle.console.specs.Words.{words, spaced}

-- ---- words and spaces

pub spaced-words : SpacedWords
spaced-words t = join_with_byte-slice_split 32 t

no_space : (w : List ℕ) → Unspaced w → All (λ c. eqb c 32 ≡ false) w
no_space w free = All-weaker (λ c. c ≢ 32) (λ c. eqb c 32 ≡ false) (λ c other. ne_eqb c 32 other) w (All-from_recursion (λ c. c ≢ 32) w free)

words_one : (w : List ℕ) → Unspaced w → words w ≡ w ∷ []
words_one w free = slice_split_none (λ c. eqb c 32) w (no_space w free)

words_first : (w t : List ℕ) → Unspaced w → words (w ++ (32 ∷ t)) ≡ w ∷ words t
words_first w t free = slice_split_at (λ c. eqb c 32) w 32 t (no_space w free) refl

pub words-spaced : WordsSpaced
words-spaced w [] free frees = words_one w free
words-spaced w (v ∷ ws) free frees = words_first w (spaced (v ∷ ws)) free ∙ ap (λ l. w ∷ l) (words-spaced v ws frees.0 frees.1)

-- ---- numerals

digit_unspaced : (c : ℕ) → is_ascii_digit c ≡ true → c ≡ 32 → ⊥
digit_unspaced c digit e = let low = leb-true 48 c (and_parts _ _ digit).0 in omega arith

digits_unspaced : (w : List ℕ) → all_ascii_digits w ≡ true → Unspaced w
digits_unspaced [] digits = tt
digits_unspaced (c ∷ w) digits = let parts = and_parts (is_ascii_digit c) (all_ascii_digits w) digits in (digit_unspaced c parts.0, digits_unspaced w parts.1)

numeral_unspaced : (w : List ℕ) → IsNumeral w → Unspaced w
numeral_unspaced [] is = tt
numeral_unspaced (c ∷ w) is = digits_unspaced (c ∷ w) is

numerals_unspaced : (ws : List (List ℕ)) → AllByRecursion IsNumeral ws → AllByRecursion Unspaced ws
numerals_unspaced [] are = tt
numerals_unspaced (w ∷ ws) are = (numeral_unspaced w are.0, numerals_unspaced ws are.1)

colon_unspaced : (w : List ℕ) → Unspaced w → Unspaced (w ++ codes ":")
colon_unspaced [] free = (λ e. omega arith, tt)
colon_unspaced (c ∷ w) free = (free.0, colon_unspaced w free.1)

number_in-numeral : (w : List ℕ) → IsNumeral w → number_in w ≡ Some (value w)
unfolding number_in
number_in-numeral w is = rw is

numeral_of_number : (w : List ℕ) (n : ℕ) → number_in w ≡ Some n → IsNumeral w × (n ≡ value w)
unfolding number_in
numeral_of_number w n e = let so = cond_some (numeral w) (value w) n e in (so.0, sym so.1)

numbers_of_numerals : (ws : List (List ℕ)) → AllByRecursion IsNumeral ws → numbers ws ≡ Some (map value ws)
unfolding numbers in_front
numbers_of_numerals [] are = refl
numbers_of_numerals (w ∷ ws) are = λ i. in_front (number_in-numeral w are.0 i) (numbers_of_numerals ws are.1 i)

in_front_some : (first : Option ℕ) (rest : Option (List ℕ)) (ns : List ℕ) → in_front first rest ≡ Some ns → (n : ℕ) × (ms : List ℕ) × (first ≡ Some n) × (rest ≡ Some ms) × (ns ≡ n ∷ ms)
unfolding in_front
in_front_some None rest ns e = cc
in_front_some (Some n) rest ns e = let more = mapped_some (λ ms. n ∷ ms) rest ns e in (n, more.0, refl, more.1, sym more.2)

numerals_of_numbers : (ws : List (List ℕ)) (ns : List ℕ) → numbers ws ≡ Some ns → AllByRecursion IsNumeral ws × (ns ≡ map value ws)
unfolding numbers in_front
numerals_of_numbers [] ns e = (tt, cc)
numerals_of_numbers (w ∷ ws) ns e =
    let parts = in_front_some (number_in w) (numbers ws) ns e in
    let head = numeral_of_number w parts.0 parts.2 in
    let tail = numerals_of_numbers ws parts.1 parts.3 in
    ((head.0, tail.0), parts.4 ∙ (λ i. head.1 i ∷ tail.1 i))

-- ---- the whole command

letter_unspaced : Unspaced (codes "letter")
letter_unspaced = (λ e. omega arith, (λ e. omega arith, (λ e. omega arith, (λ e. omega arith, (λ e. omega arith, (λ e. omega arith, tt))))))

typed_some : (d : List ℕ) (ds : List (List ℕ)) → length (typed d ds) ≡ 0 → ⊥
unfolding typed
typed_some d ds e = omega arith

pub typed_is_read : TypedIsRead
unfolding typed letter_words letter_of
typed_is_read d ds is are =
    reading_some (typed d ds) (typed_some d ds)
    ∙ ap command_words (words-spaced (codes "letter") ((d ++ codes ":") ∷ ds) letter_unspaced (colon_unspaced d (numeral_unspaced d is), numerals_unspaced ds are))
    ∙ command_letter (codes "letter") ((d ++ codes ":") ∷ ds) refl
    ∙ (λ i. letter_of (option_and_then number_in (before_colon_push d i)) (numbers ds))
    ∙ (λ i. letter_of (number_in-numeral d is i) (numbers_of_numerals ds are i))

letter_of_some : (name : Option ℕ) (bytes : Option (List ℕ)) (n : ℕ) (bs : List ℕ) → letter_of name bytes ≡ letter n bs → (name ≡ Some n) × (bytes ≡ Some bs)
unfolding letter_of
letter_of_some None bytes n bs e = cc
letter_of_some (Some m) None n bs e = cc
letter_of_some (Some m) (Some cs) n bs e = (cc, cc)

-- what the words of a letter are
pub record TypedWords (ws : List (List ℕ)) (n : ℕ) (bs : List ℕ) : Type 0 where
  pub name : List ℕ
  pub bytes : List (List ℕ)
  pub name_is : IsNumeral name
  pub bytes_are : AllByRecursion IsNumeral bytes
  pub these : ws ≡ codes "letter" ∷ ((name ++ codes ":") ∷ bytes)
  pub name_value : n ≡ value name
  pub byte_values : bs ≡ map value bytes

letter_typed : (ws : List (List ℕ)) (n : ℕ) (bs : List ℕ) → letter_words ws ≡ letter n bs → TypedWords (codes "letter" ∷ ws) n bs
unfolding letter_words
letter_typed [] n bs e = cc
letter_typed (w ∷ ws) n bs e =
    let parts = letter_of_some (option_and_then number_in (before_colon w)) (numbers ws) n bs e in
    let front : (d : List ℕ) × (before_colon w ≡ Some d) × (number_in d ≡ Some n) = option_and_then_some number_in (before_colon w) n parts.0 (λ d is so. (d, is, so)) in
    let name = numeral_of_number front.0 n front.2 in
    let bytes = numerals_of_numbers ws bs parts.1 in
    record {
      name = front.0;
      bytes = ws;
      name_is = name.0;
      bytes_are = bytes.0;
      these = ap (λ v. codes "letter" ∷ (v ∷ ws)) (before_colon_some w front.0 front.1);
      name_value = name.1;
      byte_values = bytes.1;
    }

command_typed : (ws : List (List ℕ)) (n : ℕ) (bs : List ℕ) → command_words ws ≡ letter n bs → TypedWords ws n bs
unfolding command_words
command_typed [] n bs e = cc
command_typed (w ∷ ws) n bs e =
    command_cases w ws (letter n bs) e (λ is e. rw is (letter_typed ws n bs e)) (λ is e. elim (line_says ws) [ inl so ↦ cc | inr so ↦ cc so.1 ]) (λ e. cc)

reading-typed : (t : List ℕ) (n : ℕ) (bs : List ℕ) → reading t ≡ letter n bs → TypedWords (words t) n bs
unfolding reading
reading-typed [] n bs e = cc
reading-typed (c ∷ cs) n bs e = command_typed (words (c ∷ cs)) n bs e

pub read_was_typed : ReadWasTyped
unfolding typed
read_was_typed t n bs e =
    let so = reading-typed t n bs e in
    (so.name, so.bytes, so.name_is, so.bytes_are, sym (spaced-words t) ∙ ap spaced so.these, so.name_value, so.byte_values)

-- ---- the command `line`

line-typed : (ws : List (List ℕ)) → command_words ws ≡ current_line → ws ≡ codes "line" ∷ []
unfolding command_words
line-typed [] e = cc
line-typed (w ∷ ws) e =
    command_cases w ws current_line e (λ is e. elim (letter_says ws) [ inl so ↦ cc | inr so ↦ cc so.2 ])
    (λ is e. elim (line_says ws) [ inl so ↦ cc | inr so ↦ ap₂ ◌∷◌ is so.0 ]) (λ e. cc)

pub line_was_typed : LineWasTyped
unfolding reading
line_was_typed [] e = cc
line_was_typed (c ∷ cs) e = sym (spaced-words (c ∷ cs)) ∙ ap spaced (line-typed (words (c ∷ cs)) e)

-- ---- blank lines

command_not_blank : (ws : List (List ℕ)) → command_words ws ≡ blank → ⊥
unfolding command_words
command_not_blank [] e = cc
command_not_blank (w ∷ ws) e =
    command_cases w ws blank e (λ is e. elim (letter_says ws) [ inl so ↦ cc | inr so ↦ cc so.2 ])
    (λ is e. elim (line_says ws) [ inl so ↦ cc | inr so ↦ cc so.1 ]) (λ e. cc)

pub blank_is_empty : BlankIsEmpty
unfolding reading
blank_is_empty [] e = refl
blank_is_empty (c ∷ cs) e = absurd (command_not_blank (words (c ∷ cs)) e)

-- ---- which command a text is

pub reading_line : reading (codes "line") ≡ current_line
unfolding reading command_words line_words
reading_line = refl

pub reading_letter : (t rest : List ℕ) → t ≡ codes "letter " ++ rest → reading t ≡ letter_words (words rest)
reading_letter t rest is =
    reading_some t (λ none. omega (arith, none, ap length is)) ∙ ap command_words (ap words is ∙ words_first (codes "letter") rest letter_unspaced)
    ∙ command_letter (codes "letter") (words rest) refl

pub reading_other : (t : List ℕ) → (t ≡ [] → ⊥) → (t ≡ codes "line" → ⊥) → ((rest : List ℕ) → t ≡ codes "letter " ++ rest → ⊥) → reading t ≡ unreadable
unfolding typed
reading_other t some not_line not_letter = each (reading t) refl
  where
    each : (r : Reading) → reading t ≡ r → reading t ≡ unreadable
    each blank e = absurd (some (blank_is_empty t e))
    each (letter n bs) e = let so = read_was_typed t n bs e in absurd (not_letter (spaced ((so.0 ++ codes ":") ∷ so.1)) so.4)
    each current_line e = absurd (not_line (line_was_typed t e))
    each unreadable e = e
