-- Laws of the rules' content: each way that reading it goes.
use Rattle.std.specs.Prelude.{ℕ, Bool, Option, Some, Ok, Err, ◌-◌, ◌≤◌, ◌<◌, ◌≡◌, refl, true, false, ◌&&◌, ◌||◌, List, [], length, ltb}
use Rattle.std.proofs.Common.{sym, ap, ap₂, ◌∙◌, arith, eq-eqb, ne_eqb, lt-ltb, le-ltb}
use Rattle.rules.specs.Bytes.{byte_at, letter, name_end, GRPLVL, GRPO}
use Rattle.rules.specs.Reading.{Reading, refused, got}
use Rattle.rules.specs.TypeFile.{empty, model, ContentEnd, is_word, is_cut, EMPTY, ANY, CDATA, RCDATA, unfit, content_word, content_model, content, Tokens, group, occurrence}
use Rattle.text.specs.Words.{cut_or}
use Rattle.text.specs.Refusal.{refusal_of}
use Rattle.text.specs.declared.Fault.{Fault}
use Rattle.and_laws.specs.Sets.{Plain}
use Rattle.and_laws.specs.Numbers.{Guarded}
use Rattle.rules_laws.specs.Holds.{got_so}
use Rattle.rules_laws.specs.In.{fits_none}
use Rattle.rules_laws.specs.Groups.{Read, group_read, occurrence_read, Whatever, whatever_builds}
use Rattle.model_table.specs.Fill.{finished}
use Rattle.model_table.specs.Shows.{Fresh, says}
use Rattle.model_table.specs.Behind.{finished_behind}
use Rattle.model_code.specs.Spelled.{codes, code_in, code_same}
use Rattle.connectors.specs.Kept.{begun, Tabled, Keeps}
use Rattle.connectors.specs.declared.Model as kept
use Rattle.element_content.specs.declared.Body.{Body}
use Rattle.element_content.specs.Kept.{place, place_none, wrong_word, KeepsBody, MeetsBody}

-- A word as content.
module _ (long : ℕ) (s : List ℕ) (from i : ℕ) where
  pub word_long : long < name_end s i - i → content_word long s from i ≡ refused 3 i
  unfolding content_word
  word_long h = rw (lt-ltb _ _ h, content_word)

  module _ (h : name_end s i - i ≤ long) where
    pub word_empty : (ltb from i && is_word s i (name_end s i) EMPTY) ≡ true → content_word long s from i ≡ got (record { content = empty; at = name_end s i; repeated = 0 })
    unfolding content_word
    word_empty w = rw (le-ltb _ _ h, w, content_word)

    module _ (w : (ltb from i && is_word s i (name_end s i) EMPTY) ≡ false) where
      pub word_named : (is_word s i (name_end s i) ANY || is_word s i (name_end s i) CDATA || is_word s i (name_end s i) RCDATA) ≡ true → content_word long s from i ≡ refused 5 i
      unfolding content_word
      word_named n = rw (le-ltb _ _ h, w, n, content_word)

      pub word_other : (is_word s i (name_end s i) ANY || is_word s i (name_end s i) CDATA || is_word s i (name_end s i) RCDATA) ≡ false → content_word long s from i ≡ refused 4 (wrong_word s from i (name_end s i))
      unfolding content_word
      word_other n = rw (le-ltb _ _ h, w, n, content_word) (sym (cut_or (ltb from i && is_cut s i (name_end s i) EMPTY) (length s) i))

-- A model as content.
module _ (long : ℕ) (s : List ℕ) (i : ℕ) where
  pub model_refused : {f : Fault} → group long GRPLVL s i [] 0 ≡ refusal_of f → content_model long s i ≡ refusal_of f
  unfolding content_model
  model_refused q = rw (q, content_model)

  pub model_got : {t : Tokens} → group long GRPLVL s i [] 0 ≡ got t
      → content_model long s i ≡ got (record { content = model (occurrence s t).group (occurrence s t).places (occurrence s t).tokens; at = (occurrence s t).at; repeated = (occurrence s t).repeated })
  unfolding content_model
  model_got q = rw (q, content_model)

-- A model that was read, with its indicator: where no "&" is told it has none, and where none is refused none stands under "+".
module _ (long : ℕ) (s : List ℕ) (i : ℕ) (h : i < length s) (t : Tokens) (e : group long GRPLVL s i [] 0 ≡ got t) where
  model_read : Read s Whatever i [] (occurrence s t)
  model_read = occurrence_read long s whatever_builds t (got_so (group_read long s whatever_builds GRPLVL i [] 0 h (fits_none s)) e)

  pub model_plain : (occurrence s t).and ≡ 0 → Plain (occurrence s t).group
  model_plain = model_read.plain

  pub model_guarded : (occurrence s t).repeated ≡ 0 → Guarded (occurrence s t).group
  model_guarded = model_read.guarded

-- What the code keeps of a model when its table is finished.
module _ {end : ℕ} {names T table : List ℕ} {m : kept.Model} {t : Tokens} (k : Keeps end (begun 1 T 0 0) 1 0 names table m t) (plain : t.and ≡ 0 → Plain t.group) (guarded : t.repeated ≡ 0 → Guarded t.group) (fresh : Fresh T) where
  tabled : Tabled (begun 1 T 0 0) t.group (codes t.group) t.tokens table m.code
  tabled = k.tabled (record { len = fresh.len; owed = omega arith })

  pub model_kept : {finish : List ℕ} (code : ℕ) (has : Bool) (repeated : Option ℕ) → finish ≡ finished table m.part → code ≡ m.code → (has ≡ false → m.and ≡ 0) → repeated ≡ place m.repeated
      → KeepsBody end names finish (record { model = Some (record { tokens = m.tokens; places = m.places; code = code; and = has; repeated = repeated }); at = m.at })
      (record { content = model t.group t.places t.tokens; at = t.at; repeated = t.repeated })
  model_kept {finish} code has r q x y z =
      record {
        at = k.at;
        at_in = k.at_in;
        repeated_at = z ∙ ap place k.repeated_at;
        content = (
          k.tokens,
          k.tokens_in_lem,
          record {
            names_hold = k.names_hold;
            counted = k.places;
            says = rw (q, k.part) (says t.group k.numbered (omega (arith, k.counted, k.places_in_lem, k.tokens_in_lem)) T table fresh tabled.filled);
            room = omega (arith, tabled.room, k.tokens_in_lem);
            spelled = ap₂ code_in q x ∙ code_same table (finished table m.part) (finished_behind table m.part).same m.code ∙ tabled.code_holds;
            plain = λ o. plain (sym k.and_at ∙ y o);
            guarded = λ o. guarded (sym k.repeated_at ∙ place_none m.repeated (sym z ∙ o));
            numbered = k.numbered;
            sized = omega (arith, k.counted, k.places);
            places_in_lem = omega (arith, k.places, k.places_in_lem, k.tokens_in_lem);
          },
        );
      }

-- The content is EMPTY or a model.
module _ (long : ℕ) (s : List ℕ) (from i : ℕ) where
  pub content_model_lem : byte_at s i ≡ GRPO → content long s from i ≡ content_model long s i
  unfolding content
  content_model_lem b = rw (eq-eqb _ _ b, content)

  pub content_word_lem : (byte_at s i ≡ GRPO → ⊥) → letter (byte_at s i) ≡ true → content long s from i ≡ content_word long s from i
  unfolding content
  content_word_lem b l = rw (ne_eqb _ _ b, l, content)

  pub content_unfit : (byte_at s i ≡ GRPO → ⊥) → letter (byte_at s i) ≡ false → content long s from i ≡ unfit s i
  unfolding content
  content_unfit b l = rw (ne_eqb _ _ b, l, content)

-- An answer and the reading that it meets.

module _ (end : ℕ) (names table : List ℕ) where
  pub body_read : (b : Body) (x : Reading ContentEnd) → MeetsBody end names table (Ok b) x → (c : ContentEnd) × (x ≡ got c) × KeepsBody end names table b c
  body_read b (refused n k) h = absurd h
  body_read b (got c) h = (c, refl, h)

  pub body_refusal : (f : Fault) (x : Reading ContentEnd) → MeetsBody end names table (Err f) x → x ≡ refused f.number f.at
  body_refusal f (refused n k) h = cc (h.0, h.1)
  body_refusal f (got c) h = absurd h

  pub body_meets : (b : Body) (c : ContentEnd) (x : Reading ContentEnd) → x ≡ got c → KeepsBody end names table b c → MeetsBody end names table (Ok b) x
  body_meets b c x q h = rw q h

  pub body_refused : (f : Fault) (x : Reading ContentEnd) → x ≡ refusal_of f → MeetsBody end names table (Err f) x
  body_refused f x q = rw q (refl, refl)

  -- The word from i to e is wrong.
  pub body_wrong : (s : List ℕ) (from i e : ℕ) (f : Fault) (x : Reading ContentEnd) → e ≡ name_end s i → f ≡ record { number = 4; at = wrong_word s from i e }
      → x ≡ refused 4 (wrong_word s from i (name_end s i)) → MeetsBody end names table (Err f) x
  body_wrong s from i e f x E F q = body_refused f x (rw (F, E) q)
