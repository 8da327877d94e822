-- A bit goes on if the length may still be at most eight, and if in the check it is the check's own: else no good frame's fields go on so.
use Rattle.std.proofs.Common.{◌≡◌, ℕ, ◌+◌, ◌*◌, ◌^◌, ◌<◌, ◌≤◌, Bool, true, false, eqb, leb, ◌⊎◌, List, [], ◌∷◌, ◌++◌, length, sym, ap, ◌∙◌, subst, inl, inr, lt_of_lt_of_le, arith, pow_mono, pow-add}
use Rattle.std.proofs.lemmas.Bool.{cases_lt, eqb-false, leb-true, le-leb, both_ways}
use Rattle.bits.proofs.BitLaws.{bool_byte-is}
use Rattle.bits.proofs.CrcLaws.{crc_from-++}
use Rattle.bits.specs.Bits.{bit, bit_at, bits_of}
use Rattle.bits.specs.Crc.{crc, crc_from, crc_step}
use Rattle.reader.proofs.PrefixLaws.{begins_few, begins_next, begins_own, count_is, length_behind, length_few, row_push}
use Rattle.reader.proofs.TestLaws.{differs, like}
use Rattle.reader.specs.Beginning.{Begins}
use Rattle.reader.specs.Hearing.{row}
use Rattle.reader.specs.Reading.{length_in}
use Rattle.reader.specs.declared.prefix.Prefix.{Prefix}
use Rattle.reader.proofs.prefix.Prefix.push.Goals as goal
use Rattle.reader.proofs.prefix.Prefix.push.Goals.{After-from, else-is_in_check-via-then-is_in_check+else-bit-highest, else-is_in_check-via-else-is_in_check}

-- ---- a bit with which nothing goes on

pub returns-in_err-len : goal.returns-in_err-len
returns-in_err-len c so = rw c.from_residual.ensures (λ more. omega (arith, begins_few _ more, c.in_err-len.ensures))

-- the check's highest bit, as the code has it
own : (p : Prefix) → bit_at (crc (row p)) 14 ≡ bit_at p.crc.value 14
own p = ap (λ k. bit_at k 14) (sym p.checked)

pub returns-then-bit-highest : goal.returns-then-bit-highest
returns-then-bit-highest c so more =
    let p = c.args.self in
    let inside : 15 + 8 * p.len ≤ p.count = leb-true (15 + 8 * p.len) p.count (sym c.if-is_in_check.ensures) in
    let has-to = begins_own (row p) c.args.bit more (omega (arith, inside, p.counted, count_is p)) in
    differs c.args.bit c.highest.result c.if-bit-highest.true (has-to ∙ own p ∙ sym c.highest.ensures)

-- ---- a bit with which the fields go on

small : (p : Prefix) → p.number < 2 ^ 94
small p =
    let short : p.count ≤ 94 = omega (arith, p.short, p.few) in
    lt_of_lt_of_le p.narrow (pow_mono short)

bit_most : (b : Bool) → bit b ≤ 1
unfolding bit
bit_most true = omega arith
bit_most false = omega arith

pub overflow_mul-result : goal.overflow_mul-result
overflow_mul-result c = omega (arith, small c.args.self)

-- the new bit as the code has it
new_bit : (c : After-from) → c.from.result ≡ bit c.args.bit
new_bit c = c.from.ensures ∙ bool_byte-is c.args.bit

pub overflow_add-result : goal.overflow_add-result
overflow_add-result c = omega (arith, small c.args.self, new_bit c, bit_most c.args.bit)

-- the bits with the new one
pushed : (c : After-from) → bits_of (c.args.self.count + 1) (2 * c.args.self.number + c.from.result) ≡ row c.args.self ++ (c.args.bit ∷ [])
pushed c =
    ap (λ b. bits_of (c.args.self.count + 1) (2 * c.args.self.number + b)) (new_bit c)
    ∙ row_push c.args.self.count c.args.self.number c.args.bit

checked : (d : List Bool) (b : Bool) → crc_from 0 (d ++ (b ∷ [])) ≡ crc_step (crc d) b
unfolding crc_from
checked d b = crc_from-++ 0 d (b ∷ [])

-- more is to come of the fields than there is
room : (p : Prefix) (b : Bool) (len : ℕ) → eqb p.count (30 + 8 * p.len) ≡ false → len ≡ length_in (row p ++ (b ∷ [])) → p.count + 1 ≤ 30 + 8 * len
room p b len whole is = either (cases_lt p.count 15)
  where
    either : (p.count < 15) ⊎ (15 ≤ p.count) → p.count + 1 ≤ 30 + 8 * len
    either (inl before) = omega arith
    either (inr behind) =
        let same = length_behind (row p) b (omega (arith, count_is p)) in
        omega (arith, p.short, eqb-false p.count (30 + 8 * p.len) whole, is, same, p.counted)

pub invariant_of-result : goal.invariant_of-result
invariant_of-result c =
    let p = c.args.self in
    let at : After-from = (goal.at.invariant_of-result c).After-from in
    let (len, few) = c.in_ok-len.ensures in
    record {
      narrow = omega (arith, p.narrow, pow-add 2 p.count 1, new_bit at, bit_most c.args.bit);
      short = room p c.args.bit c.in_ok-len.len c.requires len;
      few = omega (arith, len, length_few (row p) c.args.bit (omega (arith, p.counted, p.few)) few);
      counted = len ∙ ap length_in (sym (pushed at));
      checked = c.push_bit.ensures ∙ ap (λ k. crc_step k c.args.bit) p.checked ∙ sym (checked (row p) c.args.bit) ∙ ap (crc_from 0) (sym (pushed at));
    }

-- a bit in the check is the check's own
inside : (c : goal.After-from) → 15 + 8 * length_in (row c.args.self) ≤ length (row c.args.self) → c.args.bit ≡ bit_at (crc (row c.args.self)) 14
inside c h =
    let p = c.args.self in
    let there : leb (15 + 8 * p.len) p.count ≡ true = le-leb (15 + 8 * p.len) p.count (omega (arith, h, count_is p, p.counted)) in
    elim c.else-is_in_check.branch [
      | else-is_in_check-via-then-is_in_check+else-bit-highest w ↦
          like c.args.bit w.highest.result w.if-bit-highest.false ∙ w.highest.ensures ∙ sym (own p)
      | else-is_in_check-via-else-is_in_check w ↦ absurd (both_ways (leb (15 + 8 * p.len) p.count) (sym w.if-is_in_check.ensures) there)
    ]

pub returns : goal.returns
returns c so =
    let p = c.args.self in
    let at : After-from = (goal.at.returns c).After-from in
    let short : length (row p) < 30 + 8 * length_in (row p) = omega (arith, count_is p, p.counted, p.short, eqb-false p.count (30 + 8 * p.len) c.requires) in
    (pushed at, subst Begins (sym (pushed at)) (begins_next (row p) c.args.bit so c.in_ok-len.ensures.1 short (inside at)))
