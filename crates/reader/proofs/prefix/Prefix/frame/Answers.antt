-- The frame is taken from the number, which has the bits of its fields.
use Rattle.std.proofs.Common.{◌≡◌, ℕ, ◌+◌, ◌*◌, ◌/◌, ◌^◌, true, List, is_some, Some, None, Option, sym, refl, ap, ◌∙◌, subst, arith, shr_lt}
use Rattle.std.proofs.lemmas.Bool.{and_parts, eqb-true}
use Rattle.std.proofs.lemmas.Option.{none-some}
use Rattle.std.specs.Option.{option_map}
use Rattle.bits.specs.Bits.{bits_of}
use Rattle.frame.specs.Contents.{contents}
use Rattle.frame.specs.Fields.{fields}
use Rattle.frame.specs.Good.{all_bytes, good}
use Rattle.frame.specs.declared.frame.Frame.{Frame}
use Rattle.reader.proofs.FieldsBack.{number_below}
use Rattle.reader.proofs.FrameLaws.{head, id-of, data_of, id-taken, data_taken, frame-good, fields_are}
use Rattle.reader.specs.Beginning.{Begins}
use Rattle.reader.specs.Hearing.{row, whole}
use Rattle.reader.specs.Reading.{length_in}
use Rattle.reader.specs.declared.prefix.Prefix.{Prefix}
use Rattle.reader.proofs.prefix.Prefix.frame.Goals as goal
use Rattle.reader.proofs.prefix.Prefix.frame.Goals.{After-new}

-- the number of the bits before the check, and the identifier and the bytes that it has
abbrev plain : Prefix → ℕ
plain p = p.number / 2 ^ 15

abbrev parts : Prefix → ℕ × List ℕ
parts p = (id-of p.len (plain p), data_of p.len (plain p))

module _ (p : Prefix) (all : whole p ≡ true) where
  count_is : p.count ≡ 30 + 8 * p.len
  count_is = eqb-true p.count (30 + 8 * p.len) all

  row_is : bits_of (30 + 8 * p.len) p.number ≡ row p
  row_is = ap (λ k. bits_of k p.number) (sym count_is)

  id-is : plain p / 2 ^ (4 + 8 * p.len) ≡ id-of p.len (plain p)
  id-is =
      let width : 15 + 8 * p.len + 15 ≡ p.count = omega (arith, count_is) in
      id-taken p.len (plain p) (shr_lt (15 + 8 * p.len) 15 (omega (arith, p.narrow, ap (λ k. 2 ^ k) width)))

pub overflow_cast-id-2 : goal.overflow_cast-id-2
overflow_cast-id-2 c = omega (arith, number_below 11 (head c.args.self.len (plain c.args.self)), id-is c.args.self c.requires)

-- so a frame is made
made : (c : After-new) → option_map contents c.new.result ≡ Some (parts c.args.self)
made c =
    let p = c.args.self in
    let is_good = (and_parts (good (parts p).0 (parts p).1) (all_bytes (parts p).1) (frame-good p.len (plain p) p.few)).0 in
    rw (c.new.ensures, id-is p c.requires, data_taken p.len (plain p) p.few c.to_be_bytes-bytes.result c.to_be_bytes-bytes.ensures, is_good) refl

some_made : (o : Option Frame) (x : ℕ × List ℕ) → option_map contents o ≡ Some x → is_some o ≡ true
some_made None x e = absurd (none-some x e)
some_made (Some f) x e = refl

pub unwrap-requires : goal.unwrap-requires
unwrap-requires c = some_made c.new.result _ (made c)

pub returns : goal.returns
returns c so =
    let p = c.args.self in
    let is : Some (contents c.unwrap.result) ≡ Some (parts p) = ap (option_map contents) (sym c.unwrap.ensures) ∙ made (goal.at.returns c).After-new in
    let frame : contents c.unwrap.result ≡ parts p = cc in
    let bits = row_is p c.requires in
    ap (λ x. fields x.0 x.1) frame ∙ fields_are p.len p.number p.few (ap length_in bits ∙ sym p.counted) (subst Begins (sym bits) so) ∙ bits
