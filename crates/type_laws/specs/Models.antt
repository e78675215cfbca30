-- What holds of every model that is read: its places are numbered from 1, left to right, and `#PCDATA` may stand directly after itself.
use Rattle.std.specs.Prelude.{ℕ, suc, ◌-◌, ◌≤◌, ◌<◌, ◌≡◌, true, List, [], ◌∷◌, ◌++◌, length, eqb}
use Rattle.std.proofs.Common.{sym, ◌∙◌, ap, arith, eqb-true}
use Rattle.rules.specs.Walk.{Group, place, seq, alt, opt, plus, and, one, also}
use Rattle.rules.specs.TypeFile.{Place, Content, empty, model, Element}
use Rattle.rules.specs.Judge.{place_at}
use Rattle.rules_laws.specs.Holds.{got_so}
use Rattle.rules_laws.specs.Groups.{Builds, Built, content_read_lem}
use Rattle.rules_laws.specs.Declarations.{Declares}
use Rattle.rules_laws.specs.In.{All, none, all_snoc}
use Rattle.rules_laws.specs.Names.{place_at_append, place_at_next}
use Rattle.basic_laws.specs.Truth.{or_left, or_right, or_cases, and_both}
use Rattle.model_sets.specs.Sets.{size, Numbered, has, follow}
use Rattle.and_laws.specs.Numbers.{has_range}
use Rattle.document_laws.specs.Numbers.{Counted, counted_builds}

-- A place of no size, which is `#PCDATA`, may stand directly after itself.
abbrev pub Repeats : Group → List Place → Type 0
Repeats g ps = (p : ℕ) → has g p ≡ true → (place_at ps (p - 1)).size ≡ 0 → follow g p p ≡ true

-- The group g was read behind the places ps, and qs are the places then.
record Grown (ps : List Place) (g : Group) (qs : List Place) : Type 0 where
  counting : Counted ps g qs
  kept : (k : ℕ) → k < length ps → place_at qs k ≡ place_at ps k
  repeats : Repeats g qs

-- One place more is read.
module _ (long : ℕ) (ps : List Place) (x : Place) where
  placed : (p : ℕ) → eqb (suc (length ps)) p ≡ true → place_at (ps ++ x ∷ []) (p - 1) ≡ x
  placed p e = place_at_next ps x [] (p - 1) (omega (arith, eqb-true (suc (length ps)) p e))

  grown_name : 1 ≤ x.size → x.size ≤ long → Grown ps (place (suc (length ps))) (ps ++ x ∷ [])
  grown_name l m =
      record {
        counting = (counted_builds {long = long}).name ps x l m;
        kept = λ k h. place_at_append ps (x ∷ []) k h;
        repeats = λ p h z. absurd (omega (arith, ap (λ (y : Place). y.size) (placed p h)));
      }

  grown_data : x.size ≡ 0 → Grown ps (opt (plus (place (suc (length ps))))) (ps ++ x ∷ [])
  grown_data e =
      record {
        counting = (counted_builds {long = long}).pcdata ps x e;
        kept = λ k h. place_at_append ps (x ∷ []) k h;
        repeats = λ p h z. and_both h h;
      }

-- A further token, behind the places of those before it.
module _ {ps qs rs : List Place} {g h : Group} (c : Grown ps g qs) (d : Grown qs h rs) where
  both_kept_lem : (k : ℕ) → k < length ps → place_at rs k ≡ place_at ps k
  both_kept_lem k l = d.kept k (omega (arith, c.counting.counted)) ∙ c.kept k l

  -- A place of the tokens before repeats as it did.
  first_repeats : (p : ℕ) → has g p ≡ true → (place_at rs (p - 1)).size ≡ 0 → follow g p p ≡ true
  first_repeats p i z =
      let l : p - 1 < length qs = omega (arith, has_range g (suc (length ps)) c.counting.numbered p i, c.counting.counted) in
      c.repeats p i (sym (ap (λ (y : Place). y.size) (d.kept (p - 1) l)) ∙ z)

  seq_repeats : Repeats (seq g h) rs
  seq_repeats p i z = or_cases (has g p) (has h p) (λ x. or_left _ (first_repeats p x z)) (λ y. or_right (follow g p p) (or_left _ (d.repeats p y z))) i

  alt_repeats : Repeats (alt g h) rs
  alt_repeats p i z = or_cases (has g p) (has h p) (λ x. or_left _ (first_repeats p x z)) (λ y. or_right (follow g p p) (d.repeats p y z)) i

  any_repeats : Repeats (and (also (one g) h)) rs
  any_repeats p i z = or_cases (has g p) (has h p) (λ x. or_left _ (or_left _ (first_repeats p x z))) (λ y. or_left _ (or_right (follow g p p) (d.repeats p y z))) i

grown_builds : {long : ℕ} → Builds long Grown
grown_builds {long} =
    record {
      name = grown_name long;
      pcdata = grown_data long;
      optional = λ c. record { counting = (counted_builds {long = long}).optional c.counting; kept = c.kept; repeats = c.repeats };
      repeated = λ c. record { counting = (counted_builds {long = long}).repeated c.counting; kept = c.kept; repeats = λ p h z. or_left _ (c.repeats p h z) };
      sequence = λ c d. record { counting = (counted_builds {long = long}).sequence c.counting d.counting; kept = both_kept_lem c d; repeats = seq_repeats c d };
      choice = λ c d. record { counting = (counted_builds {long = long}).choice c.counting d.counting; kept = both_kept_lem c d; repeats = alt_repeats c d };
      any_order = λ c d. record { counting = (counted_builds {long = long}).any_order c.counting d.counting; kept = both_kept_lem c d; repeats = any_repeats c d };
      another = λ c d. record { counting = (counted_builds {long = long}).another c.counting d.counting; kept = both_kept_lem c d; repeats = any_repeats c d };
    }

-- A model is whole.
pub record Whole (g : Group) (ps : List Place) : Type 0 where
  pub numbered : Numbered g 1
  pub counted : size g ≡ length ps
  pub repeats : Repeats g ps

abbrev pub WholeIn : Content → Type 0
WholeIn empty = Unit {0}
WholeIn (model g ps n) = Whole g ps

built_whole : (c : Content) → Built Grown c → WholeIn c
built_whole empty x = tt
built_whole (model g ps n) x = record { numbered = x.counting.numbered; counted = omega (arith, x.counting.counted); repeats = x.repeats }

-- The content of a declaration that is read.
pub declared_whole : {long : ℕ} {s : List ℕ} {es : List Element} {e : Element} → Declares long s es e → WholeIn e.content
declared_whole {long} {s} {es} {e} d = built_whole e.content (got_so (content_read_lem long s grown_builds d.before d.begun) d.content_read).built

-- The names of a model's places are no longer than `long` bytes.
abbrev Short : (long : ℕ) → List Place → Group → List Place → Type 0
Short long ps g qs = All (λ (x : Place). x.size ≤ long) ps → All (λ (x : Place). x.size ≤ long) qs

short_builds : {long : ℕ} → Builds long (Short long)
short_builds =
    record {
      name = λ ps x l m a. all_snoc a m;
      pcdata = λ ps x e a. all_snoc a (omega arith);
      optional = λ f. f;
      repeated = λ f. f;
      sequence = λ f g a. g (f a);
      choice = λ f g a. g (f a);
      any_order = λ f g a. g (f a);
      another = λ f g a. g (f a);
    }

abbrev pub ShortIn : (long : ℕ) → Content → Type 0
ShortIn long empty = Unit {0}
ShortIn long (model g ps n) = All (λ (x : Place). x.size ≤ long) ps

built_short : (long : ℕ) (c : Content) → Built (Short long) c → ShortIn long c
built_short long empty x = tt
built_short long (model g ps n) x = x none

pub declared_short : {long : ℕ} {s : List ℕ} {es : List Element} {e : Element} → Declares long s es e → ShortIn long e.content
declared_short {long} {s} {es} {e} d = built_short long e.content (got_so (content_read_lem long s short_builds d.before d.begun) d.content_read).built
