-- `rest_at` meets its contract, whatever was declared before: what was read so far, and what each refusal passes on.
use Rattle.std.proofs.Common.{refl, sym, length, arith}
use Rattle.text.specs.Words.{gap_range, passed_on}
use Rattle.element_head.specs.Heads.{head_in}
use Rattle.element_content.specs.Contents.{body_read, body_refusal}
use Rattle.element_reader.specs.Ways.{rest_gap, rest_content, rest_between, rest_close, rest_got, element_meets, element_refused}
use Rattle.rules_laws.specs.Groups.{content_from}
use Rattle.rules_laws.specs.Declarations.{close_range}
use Rattle.element_reader.proofs.rest_at.Goals as goal

pub returns-in_err-i : goal.returns-in_err-i
returns-in_err-i c es =
    let a = c.args in
    rw (passed_on _ c.from_residual.ensures.1)
    (element_refused (length a.s.now) a.h.at a.names.now a.table.now es _ _ (rest_gap a.long a.s.now es (head_in a.h) (sym c.in_err-i.ensures)))

-- The gap before the content was read.
pub body_at-requires : goal.body_at-requires
body_at-requires c = ((gap_range c.args.s.now c.args.h.at _ c.requires.0 (sym c.in_ok-i.ensures)).1, c.requires.1)

pub returns-in_err-b : goal.returns-in_err-b
returns-in_err-b c es =
    let a = c.args in
    let body = c.body_at in
    rw (passed_on _ c.from_residual-in_err-b.ensures.1)
    (element_refused (length a.s.now) a.h.at body.new.names body.new.table es _ _
    (rest_content a.long a.s.now es (head_in a.h) (sym c.in_ok-i.ensures) (body_refusal (length a.s.now) body.new.names body.new.table _ _ c.in_err-b.ensures)))

pub gap_end-requires-2 : goal.gap_end-requires-2
gap_end-requires-2 c =
    let a = c.args in
    let body = c.body_at in
    let kept = body_read (length a.s.now) body.new.names body.new.table c.in_ok-b.b _ c.in_ok-b.ensures in
    omega (arith, kept.2.at, kept.2.at_in)

pub returns-in_err-j : goal.returns-in_err-j
returns-in_err-j c es =
    let a = c.args in
    let body = c.body_at in
    let kept = body_read (length a.s.now) body.new.names body.new.table c.in_ok-b.b _ c.in_ok-b.ensures in
    rw (passed_on _ c.from_residual-in_err-j.ensures.1)
    (element_refused (length a.s.now) a.h.at body.new.names body.new.table es _ _
    (rest_between a.long a.s.now es (head_in a.h) (sym c.in_ok-i.ensures) kept.1 (rw kept.2.at at (sym c.in_err-j.ensures))))

-- The gap before the end was read.
pub close_at-requires : goal.close_at-requires
close_at-requires c =
    let a = c.args in
    let body = c.body_at in
    let kept = body_read (length a.s.now) body.new.names body.new.table c.in_ok-b.b _ c.in_ok-b.ensures in
    (gap_range a.s.now _ _ kept.2.at_in (rw kept.2.at at (sym c.in_ok-j.ensures))).1

pub returns-in_err-k : goal.returns-in_err-k
returns-in_err-k c es =
    let a = c.args in
    let body = c.body_at in
    let kept = body_read (length a.s.now) body.new.names body.new.table c.in_ok-b.b _ c.in_ok-b.ensures in
    rw (passed_on _ c.from_residual-in_err-k.ensures.1)
    (element_refused (length a.s.now) a.h.at body.new.names body.new.table es _ _
    (rest_close a.long a.s.now es (head_in a.h) (sym c.in_ok-i.ensures) kept.1 (rw kept.2.at at (sym c.in_ok-j.ensures)) (sym c.in_err-k.ensures)))

pub returns : goal.returns
returns c es =
    let a = c.args in
    let gap_in = gap_range a.s.now a.h.at _ c.requires.0 (sym c.in_ok-i.ensures) in
    let body = c.body_at in
    let kept = body_read (length a.s.now) body.new.names body.new.table c.in_ok-b.b _ c.in_ok-b.ensures in
    let between = rw kept.2.at at (sym c.in_ok-j.ensures) in
    let between_in = gap_range a.s.now _ _ kept.2.at_in between in
    let closed_in = close_range a.s.now _ _ (sym c.in_ok-k.ensures) in
    let from = content_from a.long a.s.now a.h.at _ kept.0 kept.1 in
    element_meets (length a.s.now) a.h.at body.new.names body.new.table es _ _ _
    (rest_got a.long a.s.now es (head_in a.h) (sym c.in_ok-i.ensures) kept.1 between (sym c.in_ok-k.ensures))
    (record {
      element = _;
      grows = refl;
      at = refl;
      onward = omega arith;
      at_in = closed_in.1;
      name = refl;
      name_in = c.requires.2;
      size = refl;
      size_in = c.requires.3;
      start = refl;
      end_tag_lem = refl;
      repeated_at = kept.2.repeated_at;
      content = kept.2.content;
    })
