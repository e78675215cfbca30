-- Laws of the rules' type file, declaration by declaration.
use Rattle.std.specs.Prelude.{ℕ, zero, suc, Option, Some, None, Result, Ok, Err, ◌+◌, ◌*◌, ◌≤◌, ◌<◌, ◌≡◌, length, take, replicate, eqb}
use Rattle.std.proofs.Math.Path.{refl, ap}
use Rattle.std.proofs.Common.{sym, ◌∙◌, inl, inr, arith}
use Rattle.std.proofs.Math.Bool.{true, false}
use mathlib.Core.List.{List, [], ◌∷◌, ◌++◌}
use borrow.Author.Tests.{eq-eqb, ne_eqb, le-leb, lt-leb}
use Rattle.rules.specs.Bytes.{separators_end, element_limit}
use Rattle.rules.specs.Reading.{Reading, refused, got, and_then}
use Rattle.rules.specs.Attributes.{AttList}
use Rattle.rules.specs.TypeFile.{Element, Declarations, declaration, declarations_within, listed, type_file}
use Rattle.rules.specs.Judge.{AllUnambiguous, FirstAmbiguous, here, later, content_numbers, records, first_repeated, record_width}
use Rattle.text.specs.Words.{separators_end_from}
use Rattle.text.specs.declared.Fault.{Fault}
use Rattle.element_records.specs.declared.Clash.{Clash}
use Rattle.element_records.specs.declared.Progress.{Progress}
use Rattle.element_content.specs.Kept.{place}
use Rattle.element_records.specs.Progress.{Pending, KeepsProgress}
use Rattle.attribute_lists.specs.Listed.{Headed, HeadedAs}
use Rattle.attribute_lists.specs.Heads.{headed_none, headed_all}
use Rattle.type_file.specs.File.{MeetsDeclarations, MeetsFile}
use Rattle.rules_laws.specs.Declarations.{listed_length}

-- The attributes of an element change nothing else of it.
module _ (ls : List AttList) where
  listed_records : (k : ℕ) (es : List Element) → records (listed k ls es) ≡ records es
  unfolding listed records
  listed_records k [] = refl
  listed_records k (e ∷ es) = ap (λ (l : List ℕ). e.at ∷ e.size ∷ e.start ∷ e.end ∷ (content_numbers e.content ++ l)) (listed_records (k + 1) es)

  listed_repeated : (k : ℕ) (es : List Element) → first_repeated (listed k ls es) ≡ first_repeated es
  unfolding listed first_repeated
  listed_repeated k [] = refl
  listed_repeated k (e ∷ es) = ap (λ (n : ℕ). elim (eqb e.repeated 0) [ true ↦ n | false ↦ e.repeated ]) (listed_repeated (k + 1) es)

  module _ (s : List ℕ) where
    listed_unambiguous : (k : ℕ) (es : List Element) → AllUnambiguous s es → AllUnambiguous s (listed k ls es)
    unfolding listed
    listed_unambiguous k [] a = a
    listed_unambiguous k (e ∷ es) a = (a.0, listed_unambiguous (k + 1) es a.1)

    listed_ambiguous : {at p q : ℕ} {es : List Element} (k : ℕ) → FirstAmbiguous s at p q es → FirstAmbiguous s at p q (listed k ls es)
    unfolding listed
    listed_ambiguous k (here x) = here x
    listed_ambiguous k (later u f) = later u (listed_ambiguous (k + 1) f)

    listed_pending : (x : Option Clash) (es : List Element) → Pending s x es → Pending s x (listed 1 ls es)
    listed_pending None es a = listed_unambiguous 1 es a
    listed_pending (Some x) es f = listed_ambiguous 1 f

    listed_keeps : (elements : List ℕ) (p : Progress) (es : List Element) → KeepsProgress s elements p es → KeepsProgress s elements p (listed 1 ls es)
    listed_keeps elements p es k =
        let n = listed_length 1 ls es in
        record {
          counted = k.counted ∙ sym n;
          room = omega (arith, k.room);
          recorded = ap (λ (m : ℕ). take (record_width * m) elements) n ∙ k.recorded ∙ sym (listed_records 1 es);
          at_in = k.at_in;
          repeated_at = k.repeated_at ∙ ap place (sym (listed_repeated 1 es));
          pending = λ z. listed_pending p.clash es (k.pending (sym (listed_repeated 1 es) ∙ z));
        }

-- The elements of what was declared, each with the attributes of its list.
abbrev elements_of : Reading Declarations → Reading (List Element)
elements_of r = and_then r λ d. got (listed 1 d.lists d.elements)

-- The whole type file is read.
module _ (long : ℕ) (turns : ℕ) (s : List ℕ) (at : ℕ) (es : List Element) (ls : List AttList) where
  file_none : length s ≤ separators_end s at → length es ≡ 0 → declarations_within long (suc turns) s at es ls ≡ refused 8 (length s)
  unfolding declarations_within
  file_none h z = rw (le-leb _ _ h, eq-eqb _ _ z, declarations_within)

  file_end : length s ≤ separators_end s at → (length es ≡ 0 → ⊥) → elements_of (declarations_within long (suc turns) s at es ls) ≡ got (listed 1 ls es)
  unfolding declarations_within
  file_end h z = rw (le-leb _ _ h, ne_eqb _ _ z, declarations_within)

  file_more : (i : ℕ) → i ≡ separators_end s at → i < length s → declarations_within long (suc turns) s at es ls ≡ and_then (declaration long s i es ls) (λ d. declarations_within long turns s d.at d.elements d.lists)
  unfolding declarations_within
  file_more i e h = rw (e, lt-leb _ _ (rw e at h), declarations_within)

-- What is kept between two declarations: the turns left are enough for what is still to be read.
pub record ReadsOn (long : ℕ) (s elements heads : List ℕ) (p : Progress) : Type 0 where
  pub so_far : List Element
  pub lists : List AttList
  pub turns : ℕ
  pub keeps : KeepsProgress s elements p so_far
  pub headed : Headed long s heads lists
  pub still : elements_of (declarations_within long (suc turns) s p.at so_far lists) ≡ type_file long s
  pub enough : length s ≤ turns + p.at

pub reads_start : (long : ℕ) (s elements heads : List ℕ) → heads ≡ replicate element_limit 0 → ReadsOn long s elements heads (record { at = 0; count = 0; clash = None; repeated = None })
unfolding type_file records first_repeated
reads_start long s elements heads e =
    record {
      so_far = [];
      lists = [];
      turns = length s;
      keeps = record { counted = refl; room = omega arith; recorded = refl; at_in = omega arith; repeated_at = refl; pending = λ z. tt };
      headed = headed_none long s e;
      still = refl;
      enough = omega arith;
    }

module _ (long : ℕ) (s elements heads : List ℕ) (p : Progress) (a : ReadsOn long s elements heads p) where
  pub reads_none : (i : ℕ) (f : Fault) → i ≡ separators_end s p.at → length s ≤ i → p.count ≡ 0 → f ≡ record { number = 8; at = length s } → MeetsFile long s elements heads (Err f) (type_file long s)
  reads_none i f e h z q =
      rw (← a.still, file_none long a.turns s p.at a.so_far a.lists (rw e at h) (sym a.keeps.counted ∙ z), q) (refl, refl)

  pub reads_end : (i : ℕ) → i ≡ separators_end s p.at → length s ≤ i → (p.count ≡ 0 → ⊥) → MeetsFile long s elements heads (Ok p) (type_file long s)
  reads_end i e h z =
      rw (← a.still, file_end long a.turns s p.at a.so_far a.lists (rw e at h) (λ n. z (a.keeps.counted ∙ n)))
      (listed_keeps a.lists s elements p a.so_far a.keeps, headed_all a.headed a.so_far)

  module _ (i : ℕ) (e : i ≡ separators_end s p.at) (h : i < length s) where
    abbrev Then : Reading Declarations → Reading (List Element)
    Then x = elements_of (and_then x (λ d. declarations_within long a.turns s d.at d.elements d.lists))

    goes_on : type_file long s ≡ Then (declaration long s i a.so_far a.lists)
    goes_on = sym a.still ∙ ap elements_of (file_more long a.turns s p.at a.so_far a.lists i e h)

    module _ (now after : List ℕ) where
      pub reads_refused : (f : Fault) (z : Result Progress Fault) → MeetsDeclarations long s now after i (Err f) (declaration long s i a.so_far a.lists) → z ≡ Err f → MeetsFile long s now after z (type_file long s)
      reads_refused f z m o = rw (goes_on, o) (by_declaration (declaration long s i a.so_far a.lists) m)
        where
          by_declaration : (x : Reading Declarations) → MeetsDeclarations long s now after i (Err f) x → MeetsFile long s now after (Err f) (Then x)
          by_declaration (refused n k) m = m
          by_declaration (got d) m = absurd m

      pub reads_turn : (q : Progress) → MeetsDeclarations long s now after i (Ok q) (declaration long s i a.so_far a.lists) → ReadsOn long s now after q × (p.at < q.at) × (q.at ≤ length s)
      reads_turn q m = by_declaration (declaration long s i a.so_far a.lists) m goes_on
        where
          fewer : (t : ℕ) (d : Declarations) → a.turns ≡ suc t → KeepsProgress s now q d.elements → Headed long s after d.lists → q.at ≡ d.at → i < d.at → type_file long s ≡ Then (got d) → ReadsOn long s now after q
          fewer t d z k v w l y =
              record {
                so_far = d.elements;
                lists = d.lists;
                turns = t;
                keeps = k;
                headed = v;
                still = rw w (sym (rw z at y));
                enough = omega (arith, a.enough, separators_end_from s p.at);
              }

          by_turns : (t : ℕ) (d : Declarations) → a.turns ≡ t → KeepsProgress s now q d.elements → Headed long s after d.lists → q.at ≡ d.at → i < d.at → type_file long s ≡ Then (got d) → ReadsOn long s now after q
          by_turns zero d z k v w l y = absurd (omega (arith, a.enough, separators_end_from s p.at))
          by_turns (suc t) d z k v w l y = fewer t d z k v w l y

          by_declaration : (x : Reading Declarations) → MeetsDeclarations long s now after i (Ok q) x → type_file long s ≡ Then x → ReadsOn long s now after q × (p.at < q.at) × (q.at ≤ length s)
          by_declaration (refused n k) m y = absurd m
          by_declaration (got d) m y =
              (by_turns a.turns d refl m.0 m.1 m.2 m.3 y, omega (arith, m.2, m.3, separators_end_from s p.at), m.0.at_in)

-- The elements, where the type file was read.
pub file_kept : (long : ℕ) (s elements heads : List ℕ) (p : Progress) → MeetsFile long s elements heads (Ok p) (type_file long s)
    → (es : List Element) × (type_file long s ≡ got es) × KeepsProgress s elements p es × HeadedAs long s heads es
file_kept long s elements heads p m = by_reading (type_file long s) refl m
  where
    by_reading : (x : Reading (List Element)) → type_file long s ≡ x → MeetsFile long s elements heads (Ok p) x → (es : List Element) × (type_file long s ≡ got es) × KeepsProgress s elements p es × HeadedAs long s heads es
    by_reading (refused n k) y h = absurd h
    by_reading (got es) y h = (es, y, h.0, h.1)
