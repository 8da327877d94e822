-- Each byte is joined as eight bits more, and the check as fifteen; the fields of eight bytes have 94 bits, so that nothing is lost.
use Rattle.std.proofs.Common.{◌≡◌, ◌+◌, ◌*◌, ◌^◌, ◌<◌, ◌≤◌, length, get_or, sym, ap, ◌∙◌, subst, arith, lit<, rules}
use Rattle.bits.proofs.CrcLaws.{crc_from_lt}
use Rattle.bits.specs.Crc.{crc, covered}
use Rattle.frame.specs.Contents.{frame_data}
use Rattle.frame.specs.Fields.{fields}
use Rattle.frame.proofs.FieldLaws.{Joined, few_bytes, joined_small, joined_none, joined_more, joined_all}
use Rattle.frame.proofs.fields.FieldsFromRefFrame.from.Goals.{After-from-2}
use Rattle.frame.proofs.fields.FieldsFromRefFrame.from.Goals as goal

pub loop-byte-init : goal.loop-byte-init
loop-byte-init c =
    let id : c.from.result ≡ c.args.frame.now.id = c.from.ensures ∙ c.id.ensures in
    let few : length c.data-data.result.now ≤ 8 = omega (arith, ap length c.data-data.ensures, few_bytes c.args.frame.now) in
    subst (λ n. Joined c.args.frame.now.id c.data-data.result.now 0 (n * 16 + length c.data-data.result.now)) (sym id)
    (joined_none c.args.frame.now.id c.data-data.result.now c.args.frame.now.good.0 few)

pub loop-byte-preserved : goal.loop-byte-preserved
loop-byte-preserved c =
    let byte : get_or c.data-data.result.now c.loop-byte.byte-index 0 < 256 = search rules in
    subst (λ x. Joined c.args.frame.now.id c.data-data.result.now (c.loop-byte.byte-index + 1) (c.loop-byte.number * 256 + x)) (sym c.from-in-loop-byte.ensures)
    (joined_more c.args.frame.now.id c.data-data.result.now c.loop-byte.byte-index c.loop-byte.number c.loop-byte-test.true byte c.loop-byte.invariant)

-- ---- the check, behind all bytes

pub overflow_mul-result : goal.overflow_mul-result
overflow_mul-result c =
    let small = joined_small c.args.frame.now c.data-data.result.now c.loop-byte.byte-index c.loop-byte.number c.data-data.ensures c.loop-byte.auto.byte-index-end c.loop-byte.invariant in
    omega (arith, small)

-- the check as it is joined
check : (c : goal.After-from-2) → c.from-2.result ≡ crc (covered c.args.frame.now.id (frame_data c.args.frame.now))
check c = c.from-2.ensures ∙ c.check_of.ensures

narrow : (c : goal.After-from-2) → c.from-2.result < 2 ^ 15
narrow c = subst (λ n. n < 2 ^ 15) (sym (check c)) (crc_from_lt 0 (covered c.args.frame.now.id (frame_data c.args.frame.now)) (lit< tt))

pub overflow_add-result : goal.overflow_add-result
overflow_add-result c =
    let small = joined_small c.args.frame.now c.data-data.result.now c.loop-byte.byte-index c.loop-byte.number c.data-data.ensures c.loop-byte.auto.byte-index-end c.loop-byte.invariant in
    omega (arith, narrow c, small)

pub returns : goal.returns
returns c =
    let d : After-from-2 = (goal.at.returns c).After-from-2 in
    let same = check d ∙ ap (λ xs. crc (covered c.args.frame.now.id xs)) (sym c.data-data.ensures) in
    let all : c.loop-byte.byte-index ≡ length c.data-data.result.now = omega (arith, c.loop-byte.auto.byte-index-end, c.loop-byte-test.false) in
    joined_all c.args.frame.now.id c.data-data.result.now c.loop-byte.byte-index c.loop-byte.number c.from-2.result all (narrow d) same c.loop-byte.invariant
    ∙ ap (fields c.args.frame.now.id) c.data-data.ensures
