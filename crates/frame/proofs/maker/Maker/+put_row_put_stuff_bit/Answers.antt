-- A bit is put, and then the rest by the other maker, which has one bit or one turn fewer.
use Rattle.std.proofs.Common.{◌≡◌, ◌∷◌, length, sym, refl, ap, ◌∙◌, subst, arith}
use Rattle.bits.specs.Bits.{bits_of}
use Rattle.frame.specs.Making.{left, rest, HasPut, Puts, Fits}
use Rattle.frame.specs.declared.maker.Maker.{Maker}
use Rattle.frame.proofs.MakerLaws.{puts_none, row_none, row_place, row_fits, row_puts, five_fits, five_puts, other_fits, other_puts}
use Rattle.frame.proofs.maker.Maker.+put_row_put_stuff_bit.Goals.{put_stuff_bit-then-is_due, put_stuff_bit-else-is_due}
use Rattle.frame.proofs.maker.Maker.+put_row_put_stuff_bit.Goals as goal

-- ---- the maker of rows

pub put_row-returns-in_default : goal.put_row-returns-in_default
put_row-returns-in_default t c = puts_none c.args.self.now (rest c.args.self.now) (row_none c.args.self.now c.in_default.ensures.steps.0)

pub put_row-put-requires : goal.put_row-put-requires
put_row-put-requires t c =
    (omega (arith, c.requires.0), row_place c.args.self.now c.in-Some.bit (left (record { fields = c.next.new.self; run = c.args.self.now.run; bits = c.args.self.now.bits })) c.in-Some.ensures.steps c.requires.1)

pub put_row-put_stuff_bit-requires : goal.put_row-put_stuff_bit-requires
put_row-put_stuff_bit-requires t c =
    let m = c.args.self.now in
    let taken : Maker = record { fields = c.next.new.self; run = m.run; bits = m.bits } in
    let less : length (left m) ≡ length (c.in-Some.bit ∷ left c.put.new.self) =
    ap length (c.in-Some.ensures.steps ∙ ap (λ f. c.in-Some.bit ∷ bits_of f.width f.number) (sym c.put.ensures.fields)) in
    (omega (arith, c.decreases, less), row_fits m taken c.put.new.self c.in-Some.bit c.in-Some.ensures.steps refl refl c.put.ensures c.requires.0 c.requires.1)

pub put_row-returns : goal.put_row-returns
put_row-returns t c =
    let m = c.args.self.now in
    let taken : Maker = record { fields = c.next.new.self; run = m.run; bits = m.bits } in
    row_puts m taken c.put.new.self c.in-Some.bit c.in-Some.ensures.steps refl refl c.put.ensures c.put_stuff_bit.new.self c.put_stuff_bit.ensures

-- ---- the maker of stuff bits

pub put_stuff_bit-put_row-requires : goal.put_stuff_bit-put_row-requires
put_stuff_bit-put_row-requires t c =
    elim c.if-is_due.branch [
      | put_stuff_bit-then-is_due w ↦
          let put : HasPut _ c.args.self.now c.if-is_due.self = subst (HasPut _ c.args.self.now) (sym w.self-is) w.put_other.ensures in
          let same : left c.if-is_due.self ≡ left c.args.self.now = ap (λ f. bits_of f.width f.number) put.fields in
          (omega (arith, c.decreases, ap length same), five_fits c.args.self.now c.if-is_due.self (sym c.is_due.ensures ∙ w.if-is_due.true) put c.requires.1)
      | put_stuff_bit-else-is_due w ↦
          let fits = other_fits c.args.self.now (sym c.is_due.ensures ∙ w.if-is_due.false) c.requires in
          (omega (arith, c.decreases, ap (λ m. length (left m)) w.self-is), subst (λ m. Fits 4 m (rest m)) (sym w.self-is) fits)
    ]

pub put_stuff_bit-returns : goal.put_stuff_bit-returns
put_stuff_bit-returns t c =
    elim c.if-is_due.branch [
      | put_stuff_bit-then-is_due w ↦
          five_puts c.args.self.now c.if-is_due.self (sym c.is_due.ensures ∙ w.if-is_due.true) (subst (HasPut _ c.args.self.now) (sym w.self-is) w.put_other.ensures) c.put_row.new.self c.put_row.ensures
      | put_stuff_bit-else-is_due w ↦
          other_puts c.args.self.now c.put_row.new.self (sym c.is_due.ensures ∙ w.if-is_due.false)
          (subst (λ m. Puts m (rest m) c.put_row.new.self) w.self-is c.put_row.ensures)
    ]
