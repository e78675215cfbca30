-- Laws of the search for a byte that is not allowed, and of both inputs.
use Rattle.std.specs.Prelude.{ℕ, zero, suc, ◌+◌, ◌≤◌, ◌<◌, ◌≡◌, Bool, true, false, List, max, length, drop}
use Rattle.std.specs.Prelude.{eqb}
use Rattle.std.proofs.Math.Path.{refl}
use Rattle.std.proofs.Common.{sym, ap, ◌∙◌, arith, eq-eqb, ne_eqb, eqb-true}
use Rattle.std.proofs.lemmas.Bool.{eqb-false}
use Rattle.rules.specs.Settings.{Settings, is_offered}
use Rattle.rules.specs.Bytes.{byte_at, allowed, span, document_limit, type_limit}
use Rattle.rules.specs.Judge.{Legible}
use Rattle.rules.specs.Reader.{document_refusal, BothLegible, RefusesBoth}
use Rattle.text.specs.Words.{spanned, before_all, span_turn, span_end, span_in}
use Rattle.inputs.specs.Checks.{is_clean, failing, RefusesAlways}

-- The first i bytes were looked at; `bad` is 0 where all of them are allowed.
pub record Looked (d : List ℕ) (bad i : ℕ) : Type 0 where
  pub here : i ≤ length d
  pub none : bad ≡ 0 → i + span allowed (drop i d) ≡ span allowed d
  pub some : 1 ≤ bad → span allowed d < length d

-- One byte more, of which x says whether it fails: what is kept is the larger of the two.
pub looked_turn : (d : List ℕ) (bad i x : ℕ) → Looked d bad i → i < length d
    → x ≡ failing (allowed (byte_at d i)) → Looked d (max bad x) (i + 1)
unfolding allowed
looked_turn d bad i x l h e = by_byte (allowed (byte_at d i)) refl
  where
    none_before : (b : ℕ) → bad ≡ b → allowed (byte_at d i) ≡ false → span allowed d < length d
    none_before zero z q = omega (arith, span_end allowed d i _ q (l.none z))
    none_before (suc b) z q = l.some (omega arith)

    by_byte : (b : Bool) → allowed (byte_at d i) ≡ b → Looked d (max bad x) (i + 1)
    by_byte true q =
        let fit : x ≡ 0 = rw q at e in
        record {
          here = omega arith;
          none = λ z. span_turn allowed refl d i _ q (l.none (omega arith));
          some = λ z. l.some (omega arith);
        }
    by_byte false q =
        let unfit : x ≡ 1 = rw q at e in
        record { here = omega arith; none = λ z. absurd (omega arith); some = λ z. none_before bad refl q }

pub looked_all : (d : List ℕ) (bad i : ℕ) → Looked d bad i → length d ≤ i → eqb bad 0 ≡ is_clean d
looked_all d bad i l h = by_bad bad refl
  where
    by_bad : (b : ℕ) → bad ≡ b → eqb bad 0 ≡ is_clean d
    by_bad zero z =
        let e = before_all _ _ (spanned allowed) d i _ h (l.none z) in
        eq-eqb bad 0 z ∙ sym (eq-eqb (span allowed d) (length d) (omega (arith, l.here)))
    by_bad (suc b) z =
        ne_eqb bad 0 (λ e. omega arith) ∙ sym (ne_eqb (span allowed d) (length d) (λ e. omega (arith, l.some (omega arith))))

-- The type's bytes are allowed where none was found that is not.
pub legible_type : (c : Settings) (s : List ℕ) (a : ℕ) → is_offered c ≡ true → length s ≤ type_limit → a ≡ span allowed s → length s ≤ a → Legible c s
legible_type c s a o h e l = record { offered = o; short = h; clean = omega (arith, span_in allowed s 0 (omega arith)) }

module _ (c : Settings) (s d : List ℕ) where
  pub legible_both : Legible c s → length d ≤ document_limit → is_clean d ≡ true → BothLegible c s d
  legible_both t l e = record { type = t; short = l; clean = eqb-true (span allowed d) (length d) e }

  pub document_unclean : Legible c s → length d ≤ document_limit → is_clean d ≡ false → (a : ℕ) → a ≡ span allowed d → RefusesAlways c s d (document_refusal 2 a)
  document_unclean t l f a e room =
      RefusesBoth.document_not_allowed t l (omega (arith, span_in allowed d 0 (omega arith), eqb-false (span allowed d) (length d) f)) (ap (document_refusal 2) e)
