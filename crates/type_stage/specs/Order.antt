-- Laws of the order: what was judged of the type, with a document of which so much is known.
use Rattle.std.specs.Prelude.{ℕ, ◌<◌, ◌≤◌, ◌≡◌, refl, true, false, List, length, Result, Ok, Err, IsErrAnd, MatchResult}
use Rattle.std.proofs.Common.{sym, ap, ◌∙◌, true≢false, arith}
use Rattle.rules.specs.Settings.{Settings, is_offered}
use Rattle.rules.specs.Bytes.{type_limit, document_limit}
use Rattle.rules.specs.Judge.{Answer, refusal, Legible, Refuses}
use Rattle.rules.specs.Reader.{BothLegible, RefusesBoth}
use Rattle.rules.specs.Batch.{RefusesPart, not_offered, type_too_long, passes_end}
use Rattle.rules_laws.specs.Within.{type_file_count}
use Rattle.layout.specs.Sizes.{RECORDS}
use Rattle.text.specs.declared.Fault.{Fault}
use Rattle.inputs.specs.Checks.{RefusesAlways}
use Rattle.type_judge.specs.declared.TypeFault.{TypeFault}
use Rattle.type_judge.specs.Decides.{Decides}
use Rattle.type_judge.specs.Deciding.{raised}
use Rattle.type_stage.specs.declared.Stopped.{Stopped}
use Rattle.type_stage.specs.declared.Stopped.TheVariants.{Unread, Unclean, Judged}
use Rattle.type_stage.specs.declared.Refused.{Refused}
use Rattle.type_stage.specs.declared.Refused.TheVariants.{InType, InDocument}
use Rattle.type_stage.specs.Stages.{Staged, OrderedAs, PartRefused, refused_by, alone_of, is_unclean}

-- The verdict on a legible type is its stage.
pub staged_by : {c : Settings} {s : List ℕ} (elements heads : List ℕ) → Legible c s → (v : Result ℕ TypeFault) (r : Result ℕ Stopped) → Decides c s RECORDS elements heads v
    → MatchResult v (λ n. r ≡ Ok n) (λ x. IsErrAnd r (λ y. y ≡ Judged x)) → Staged c s elements heads r
staged_by elements heads t (Ok n) r (es, a, k, room, few, w, l) e = rw e (es, a, sym k, w, l)
staged_by elements heads t (Err x) r d e = rw (raised r e) (t, d)

module _ (c : Settings) (s elements heads : List ℕ) where
  -- Nothing that comes before a document's 1 is wrong with the type.
  pub staged_offered : (g : Result ℕ Stopped) → ((x : Stopped) → g ≡ Err x → (f : Fault) → x ≡ Unread f → ⊥) → Staged c s elements heads g → (is_offered c ≡ true) × (length s ≤ type_limit)
  staged_offered (Err (Unread f)) other h = absurd (other (Unread f) refl f refl)
  staged_offered (Err (Unclean f)) other h = (h.0, h.1)
  staged_offered (Err (Judged x)) other h = (h.0.offered, h.0.short)
  staged_offered (Ok n) other (es, a, k, w, l) = (a.legible.offered, a.legible.short)

  -- Nothing that comes before a document's 2 is.
  pub staged_legible : (g : Result ℕ Stopped) → is_unclean g ≡ false → Staged c s elements heads g → Legible c s
  staged_legible (Err (Unread f)) e h = absurd (true≢false e)
  staged_legible (Err (Unclean f)) e h = absurd (true≢false e)
  staged_legible (Err (Judged x)) e h = h.0
  staged_legible (Ok n) e (es, a, k, w, l) = a.legible

  module _ (d : List ℕ) where
    -- A part's refusal is that of every document that is too long; what comes before that is every document's.
    part_always : (a : Answer) → RefusesPart c s a → document_limit < length d → RefusesAlways c s d a
    part_always a (not_offered o e) l room = RefusesBoth.not_offered o e
    part_always a (type_too_long o m e) l room = RefusesBoth.type_too_long o m e
    part_always a (passes_end o m e) l room = RefusesBoth.document_too_long o m l e

    type_always : (n k : ℕ) → RefusesPart c s (refusal n k 0 0) → RefusesAlways c s d (refusal n k 0 0)
    type_always n k (not_offered o e) room = RefusesBoth.not_offered o e
    type_always n k (type_too_long o m e) room = RefusesBoth.type_too_long o m e
    type_always n k (passes_end o m e) room = absurd (omega (arith, ap (λ (a : Answer). a.input) e))

    pub too_long : (g : Result ℕ Stopped) (r : Refused) → PartRefused c s r → document_limit < length d → OrderedAs c s d g (Err r)
    too_long g (InType x) h l = part_always _ h l
    too_long g (InDocument f) h l = part_always _ h l

    pub unclean_alone : (g : Result ℕ Stopped) → is_unclean g ≡ true → Staged c s elements heads g → length d ≤ document_limit → OrderedAs c s d g (alone_of g)
    unclean_alone (Err (Unread f)) e h l = type_always f.number f.at h
    unclean_alone (Err (Unclean f)) e (o, m, u, n, k) l = λ room. RefusesBoth.type_not_allowed o m l u (rw (n, k))
    unclean_alone (Err (Judged x)) e h l = absurd (true≢false (sym e))
    unclean_alone (Ok n) e h l = absurd (true≢false (sym e))

    module _ (b : BothLegible c s d) where
      type_refused : (a : Answer) → Refuses c s RECORDS a → RefusesAlways c s d a
      type_refused a (Refuses.not_offered o e) room = absurd (true≢false (sym b.type.offered ∙ o))
      type_refused a (Refuses.too_long o l e) room = absurd (omega (arith, b.type.short))
      type_refused a (Refuses.not_allowed o l m e) room = absurd (omega (arith, b.type.clean))
      type_refused a (Refuses.malformed l n k r e) room = RefusesBoth.malformed b n k r e
      type_refused a (Refuses.repeated l es r v e) room = RefusesBoth.repeated b es r v e
      type_refused a (Refuses.ambiguous l es r v k p q f e) room = RefusesBoth.ambiguous b es r v k p q f e
      type_refused a (Refuses.no_room l es r v u m e) room = absurd (omega (arith, type_file_count c.name_length s es r))

      pub legible_alone : (g : Result ℕ Stopped) → is_unclean g ≡ false → Staged c s elements heads g → OrderedAs c s d g (alone_of g)
      legible_alone (Err (Unread f)) e h = absurd (true≢false e)
      legible_alone (Err (Unclean f)) e h = absurd (true≢false e)
      legible_alone (Err (Judged x)) e h = type_refused _ h.1
      legible_alone (Ok n) e h = (b, refl)

-- What the type comes to alone is what is given, once the stage is looked at.
module _ (c : Settings) (s d : List ℕ) (g : Result ℕ Stopped) (h : OrderedAs c s d g (alone_of g)) where
  pub ordered_read : (n : ℕ) → g ≡ Ok n → OrderedAs c s d g (Ok n)
  ordered_read n e = ((rw e at h).0, e)

  pub ordered_refused : (x : Stopped) (r : Result ℕ Refused) → g ≡ Err x → r ≡ Err (refused_by x) → OrderedAs c s d g r
  ordered_refused x r e q = rw (q, e) (rw e at h)
