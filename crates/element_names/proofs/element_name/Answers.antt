-- `element_name` meets its contract, whatever is recorded: each way by the tests that led there.
use Rattle.std.specs.Prelude.{ℕ, ◌-◌, ◌≤◌, ◌≡◌, Bool, List, Option, is_some, IfSome}
use Rattle.std.proofs.Common.{sym, ap, ◌∙◌, arith}
use Rattle.rules.specs.Bytes.{letter}
use Rattle.rules.specs.TypeFile.{declared_from, is_declared}
use Rattle.rules.specs.TypeFile as rules
use Rattle.layout.specs.declared.ElementNo.{ElementNo}
use Rattle.text.specs.Refusal.{refusal_of}
use Rattle.text.specs.Words.{tested, name_end_from, name_end_le, name_end_more}
use Rattle.gaps.specs.Unfit.{unfit_is}
use Rattle.element_names.specs.Names.{number_of}
use Rattle.element_names.specs.Records.{number_some}
use Rattle.element_names.specs.Naming.{name_long, name_again, name_many, name_got, name_group, name_unfit}
use Rattle.element_names.proofs.element_name.Goals as goal

pub overflow_sub-e : goal.overflow_sub-e
overflow_sub-e c = omega (arith, name_end_from c.args.s.now c.args.i)

pub overflow_sub-e-then-is_letter : goal.overflow_sub-e-then-is_letter
overflow_sub-e-then-is_letter c = omega (arith, name_end_from c.args.s.now c.args.i)

pub returns-then-long-e : goal.returns-then-long-e
returns-then-long-e c =
    let a = c.args in
    let is_letter = tested letter c.byte-b.ensures c.is_letter.ensures c.if-is_letter.true in
    record { result_value = λ es n r. ap refusal_of c.at.ensures ∙ sym (name_long a.long a.s.now a.i es is_letter (omega arith)); name_in = tt }

pub declared-requires : goal.declared-requires
declared-requires c =
    let a = c.args in
    let is_letter = tested letter c.byte-b.ensures c.is_letter.ensures c.if-is_letter.true in (
      omega arith,
      omega arith,
      omega (arith, name_end_more a.s.now a.i is_letter),
      omega (arith, name_end_le a.s.now a.i c.requires.0),
    )

-- What the lookup told: whether the name is declared.
told : (s : List ℕ) (es : List rules.Element) (at count : ℕ) {e z : ℕ} → e ≡ z → (r : Option ElementNo)
    → IfSome r (λ k. (1 ≤ k.0) × (k.0 ≤ count)) → number_of r ≡ declared_from 1 s es at (e - at)
    → {b : Bool} → b ≡ is_some r → b ≡ is_declared s es at (z - at)
told s es at count q r w f h = rw (← q) (number_some count r w f h)

pub returns-then-is_some : goal.returns-then-is_some
returns-then-is_some c =
    let a = c.args in
    let is_letter = tested letter c.byte-b.ensures c.is_letter.ensures c.if-is_letter.true in
    record {
      result_value = λ es n r.
          ap refusal_of c.at-then-is_some.ensures
          ∙ sym (name_again a.long a.s.now a.i es is_letter (omega arith) (sym (told a.s.now es a.i a.d.count c.name_end-e.ensures _ c.declared.ensures.found_in_count (c.declared.ensures.found_value es n r).0 c.is_some.ensures) ∙ c.if-is_some.true));
      name_in = tt;
    }

pub returns-then-d-ge-ELEMENTS : goal.returns-then-d-ge-ELEMENTS
returns-then-d-ge-ELEMENTS c =
    let a = c.args in
    let is_letter = tested letter c.byte-b.ensures c.is_letter.ensures c.if-is_letter.true in
    record {
      result_value = λ es n r.
          ap refusal_of c.at-then-d-ge-ELEMENTS.ensures
          ∙ sym (name_many a.long a.s.now a.i es is_letter (omega arith) (sym (told a.s.now es a.i a.d.count c.name_end-e.ensures _ c.declared.ensures.found_in_count (c.declared.ensures.found_value es n r).0 c.is_some.ensures) ∙ c.if-is_some.false) (omega arith));
      name_in = tt;
    }

pub returns-then-is_letter : goal.returns-then-is_letter
returns-then-is_letter c =
    let a = c.args in
    let is_letter = tested letter c.byte-b.ensures c.is_letter.ensures c.if-is_letter.true in
    record {
      result_value = λ es n r.
          rw c.name_end-e.ensures
          (sym (name_got a.long a.s.now a.i es is_letter (omega arith) (sym (told a.s.now es a.i a.d.count c.name_end-e.ensures _ c.declared.ensures.found_in_count (c.declared.ensures.found_value es n r).0 c.is_some.ensures) ∙ c.if-is_some.false) (omega arith)));
      name_in = omega (arith, name_end_from a.s.now a.i, name_end_le a.s.now a.i c.requires.0);
    }

pub returns-then-b-eq40 : goal.returns-then-b-eq40
returns-then-b-eq40 c =
    let a = c.args in
    let no_letter = tested letter c.byte-b.ensures c.is_letter.ensures c.if-is_letter.false in
    record { result_value = λ es n r. ap refusal_of c.at-then-b-eq40.ensures ∙ sym (name_group a.long a.s.now a.i es no_letter (sym c.byte-b.ensures ∙ c.if-b-eq40.true)); name_in = tt }

pub returns : goal.returns
returns c =
    let a = c.args in
    let no_letter = tested letter c.byte-b.ensures c.is_letter.ensures c.if-is_letter.false in
    record {
      result_value = λ es n r.
          ap refusal_of c.unfit_at.ensures ∙ unfit_is a.s.now a.i ∙ sym (name_unfit a.long a.s.now a.i es no_letter (λ e. c.if-b-eq40.false (c.byte-b.ensures ∙ e)));
      name_in = tt;
    }
