-- `definition_at` meets its contract: what was read so far, and what each refusal passes on.
use Prim.Native.Nat.{ℕ, ◌≤◌}
use mathlib.Core.Path.{◌≡◌, sym, ap, ◌∙◌}
use native.Mathlib.Omega.{arith}
use lib.ListN.{length}
use Rattle.rules.specs.TypeFile.{declared_value}
use Rattle.text.specs.Words.{gap_range, passed_on}
use Rattle.attribute_defaults.specs.declared.DefaultValue.{DefaultValue}
use Rattle.attribute_defaults.specs.DefaultOf.{default_is, kind_of, number_of, width_of, Apart}
use Rattle.attribute_defaults.specs.Ways.{kind_is}
use Rattle.attribute_definitions.specs.Ways.{definition_name, definition_gap, definition_value, definition_between, definition_default, value_numbered, definition_row}
use Rattle.attribute_definitions.proofs.definition_at.Goals as goal

-- The numbers of a default stand for it.
kind : {d w : ℕ} (v : DefaultValue) → d ≡ number_of v → w ≡ width_of v → Apart v → default_is d w ≡ kind_of v
kind v e f h = rw (e, f) (kind_is v h)

pub returns-in_err-e : goal.returns-in_err-e
returns-in_err-e c = let a = c.args in
    rw (passed_on _ c.from_residual.ensures.1) record { meets_definition = λ xs m l p. definition_name a.long a.s.now xs a.from a.i (sym (c.in_err-e.ensures.result_value xs m l)); definition_fits = tt }

pub gap_end-requires : goal.gap_end-requires
gap_end-requires c = c.in_ok-e.ensures.name_fits.1

pub returns-in_err-j : goal.returns-in_err-j
returns-in_err-j c = let a = c.args in
    rw (passed_on _ c.from_residual-in_err-j.ensures.1)
    record { meets_definition = λ xs m l p. definition_gap a.long a.s.now xs a.from a.i (sym (c.in_ok-e.ensures.result_value xs m l)) (sym c.in_err-j.ensures); definition_fits = tt }

pub value_at-requires : goal.value_at-requires
value_at-requires c = let a = c.args in
    let n = c.in_ok-e.ensures.name_fits in
    omega (arith, n, gap_range a.s.now _ _ n.1 (sym c.in_ok-j.ensures))

pub returns-in_err-v : goal.returns-in_err-v
returns-in_err-v c = let a = c.args in
    let o = a.long in
    rw (passed_on _ c.from_residual-in_err-v.ensures.1) record {
      meets_definition = λ xs m l p.
          definition_value o a.s.now xs a.from a.i (sym (c.in_ok-e.ensures.result_value xs m l)) (sym c.in_ok-j.ensures)
          (ap (λ ts. declared_value o a.s.now ts c.in_ok-j.j) (sym p) ∙ c.in_err-v.ensures.meets_value);
      definition_fits = tt;
    }

pub gap_end-requires-2 : goal.gap_end-requires-2
gap_end-requires-2 c = c.in_ok-v.ensures.value_fits.2

pub returns-in_err-l : goal.returns-in_err-l
returns-in_err-l c = let a = c.args in
    let o = a.long in
    rw (passed_on _ c.from_residual-in_err-l.ensures.1) record {
      meets_definition = λ xs m l p.
          definition_between o a.s.now xs a.from a.i (sym (c.in_ok-e.ensures.result_value xs m l)) (sym c.in_ok-j.ensures)
          (ap (λ ts. declared_value o a.s.now ts c.in_ok-j.j) (sym p) ∙ c.in_ok-v.ensures.meets_value.read) (sym c.in_err-l.ensures);
      definition_fits = tt;
    }

pub default_at-requires : goal.default_at-requires
default_at-requires c = let a = c.args in
    let n = c.in_ok-e.ensures.name_fits in
    let v = c.in_ok-v.ensures.value_fits in
    omega (arith, n, v, gap_range a.s.now _ _ n.1 (sym c.in_ok-j.ensures), gap_range a.s.now _ _ v.2 (sym c.in_ok-l.ensures))

pub returns-in_err-d : goal.returns-in_err-d
returns-in_err-d c = let a = c.args in
    let o = a.long in
    rw (passed_on _ c.from_residual-in_err-d.ensures.1) record {
      meets_definition = λ xs m l p.
          let v = value_numbered c.number-value.ensures c.in_ok-v.ensures.meets_value in
          definition_default o a.s.now xs a.from a.i (sym (c.in_ok-e.ensures.result_value xs m l)) (sym c.in_ok-j.ensures)
          (ap (λ ts. declared_value o a.s.now ts c.in_ok-j.j) (sym p) ∙ v.read) (sym c.in_ok-l.ensures)
          (sym (c.in_err-d.ensures.0 v.value v.declared));
      definition_fits = tt;
    }

pub overflow_sub-result : goal.overflow_sub-result
overflow_sub-result c = omega (arith, c.in_ok-e.ensures.name_fits)

pub returns : goal.returns
returns c = let a = c.args in
    let o = a.long in
    let s = a.s.now in
    let n = c.in_ok-e.ensures.name_fits in
    let w = c.in_ok-v.ensures.value_fits in
    let first : (c.in_ok-e.e ≤ c.in_ok-j.j) × (c.in_ok-j.j ≤ length s) = gap_range s _ _ n.1 (sym c.in_ok-j.ensures) in
    let second : (c.in_ok-v.v.at ≤ c.in_ok-l.l) × (c.in_ok-l.l ≤ length s) = gap_range s _ _ w.2 (sym c.in_ok-l.ensures) in record {
      meets_definition = λ xs m l p.
          let v = value_numbered c.number-value.ensures c.in_ok-v.ensures.meets_value in
          definition_row o a.s.now xs a.from a.i _ n.0 n.1 p (sym (c.in_ok-e.ensures.result_value xs m l)) (sym c.in_ok-j.ensures) v
          (sym c.in_ok-l.ensures) (sym (c.in_ok-d.ensures.0 v.value v.declared)) (kind c.in_ok-d.d.value c.number.ensures c.width.ensures c.in_ok-d.ensures.1.3);
      definition_fits = omega (arith, c.requires, n, w, c.number-value.ensures, c.number.ensures, c.width.ensures, c.in_ok-d.ensures.1.0, c.in_ok-d.ensures.1.1, c.in_ok-d.ensures.1.2, first, second);
    }
