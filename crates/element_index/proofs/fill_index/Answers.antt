use Rattle.std.proofs.Common.{arith}
use Rattle.rules_laws.specs.Within.{type_file_count}
use Rattle.element_index.specs.Seeking.{filled_none, filled_more, filled_all, size_in}
use Rattle.element_index.proofs.fill_index.Goals as goal

pub overflow_step-k : goal.overflow_step-k
overflow_step-k c =
    let (e, judged) = c.requires.judged in
    let (es, accepted, n, recorded) = judged in
    let few = type_file_count e.name_length c.args.s.now es accepted.elements in
    omega arith

pub loop-k-init : goal.loop-k-init
loop-k-init c =
    let a = c.args in
    let (e, judged) = c.requires.judged in
    let (es, accepted, n, recorded) = judged in
    let few = type_file_count e.name_length a.s.now es accepted.elements in
    (omega arith, omega arith, λ e es accepted n recorded. filled_none a.s.now es a.index.now _ (omega arith) c.requires.index_value)

pub put_index-requires : goal.put_index-requires
put_index-requires c =
    let a = c.args in
    let (e, judged) = c.requires.judged in
    let (es, accepted, n, recorded) = judged in
    let (some, short) = size_in a.s.now es a.elements.now c.loop-k.k accepted recorded (omega arith) (omega arith) in
    (omega arith, omega arith, some, short)

pub loop-k-preserved : goal.loop-k-preserved
loop-k-preserved c =
    let a = c.args in
    let k = c.loop-k.k in
    let (from, few, filled) = c.loop-k.invariant in
    (omega arith, few, λ e es accepted n recorded. filled_more a.s.now es a.elements.now k accepted recorded (omega arith) (omega arith) c.loop-k.index (filled e es accepted n recorded) c.put_index.ensures)

pub returns : goal.returns
returns c e es accepted n recorded =
    let a = c.args in
    let (from, few, filled) = c.loop-k.invariant in
    filled_all a.s.now es a.elements.now c.loop-k.index _ accepted recorded (omega arith) (filled e es accepted n recorded)
