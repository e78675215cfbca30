-- The declaration of an element that is recorded, read again.
use Rattle.std.specs.Prelude.{ℕ, zero, suc, ◌+◌, ◌-◌, ◌*◌, ◌≤◌, ◌<◌, ◌≡◌, refl, cond, List, [], ◌∷◌, ◌++◌, length, get_or, take, Result, Ok, Err}
use Rattle.std.proofs.Common.{sym, ap, subst, ◌∙◌, not-suc-le-zero, le_of_suc-le-suc, arith, length-take-le, take-take, get_or-append-add, get_or-take}
use Rattle.std.proofs.Math.ListN.{get_or-append}
use Rattle.std.proofs.Math.Seq.{take-append-add}
use Rattle.rules.specs.Reading.{got}
use Rattle.rules.specs.TypeFile.{Content, empty, model, Element, Declared, element, type_file}
use Rattle.rules.specs.Judge.{content_numbers, records, record_width}
use Rattle.rules.specs.Elements.{element_at, content_of, has_model}
use Rattle.element_reader.specs.Keeps.{Recorded, KeepsContent, MeetsElement}
use Rattle.text.specs.declared.Fault.{Fault}
use Rattle.element_reader.specs.declared as declared
use Rattle.rules_laws.specs.Declarations.{bare, bares, bares_length}
use Rattle.type_laws.specs.Made.{element_at_next}
use Rattle.type_laws.specs.Again.{type_file_again}
use Rattle.element_names.specs.Records.{record_of}

-- Records

record_length : (x : Element) → length (record_of x) ≡ record_width
record_length x = by_content x.content
  where
    by_content : (c : Content) → length (x.at ∷ x.size ∷ x.start ∷ x.end ∷ content_numbers c) ≡ record_width
    by_content empty = refl
    by_content (model g ps n) = refl

records_number : (es : List Element) (k j : ℕ) → k < length es → j < record_width → get_or (records es) (record_width * k + j) 0 ≡ get_or (record_of (element_at es k)) j 0
unfolding records element_at
records_number [] k j h l = absurd (not-suc-le-zero h)
records_number (x ∷ es) zero j h l =
    let z : record_width * 0 + j ≡ j = omega arith in
    rw z (get_or-append (record_of x) (records es) 0 j (omega (arith, record_length x)))
records_number (x ∷ es) (suc k) j h l =
    let z : record_width * suc k + j ≡ length (record_of x) + (record_width * k + j) = omega (arith, record_length x) in
    rw z (get_or-append-add (record_of x) (records es) (record_width * k + j) 0 ∙ records_number es k j (le_of_suc-le-suc h) l)

take_none : {A : Type 0} (n : ℕ) → ◌≡◌ {A = List A} (take n []) []
take_none zero = refl
take_none (suc n) = refl

records_take : (es : List Element) (k : ℕ) → take (record_width * k) (records es) ≡ records (take k es)
unfolding records
records_take [] k = take_none (record_width * k) ∙ sym (ap records (take_none k))
records_take (x ∷ es) zero = refl
records_take (x ∷ es) (suc k) =
    let z : record_width * suc k ≡ length (record_of x) + record_width * k = omega (arith, record_length x) in
    rw z (take-append-add (record_of x) (records es) (record_width * k) ∙ ap (λ (l : List ℕ). record_of x ++ l) (records_take es k))

-- An element's attributes are not in its record.
records_bares : (es : List Element) → records (bares es) ≡ records es
unfolding records bares
records_bares [] = refl
records_bares (x ∷ es) = ap (λ (l : List ℕ). record_of x ++ l) (records_bares es)

recorded_bares : (elements : List ℕ) (es : List Element) → Recorded elements es → Recorded elements (bares es)
recorded_bares elements es r = rw (bares_length es, records_bares es) r

module _ (elements : List ℕ) (es : List Element) (r : Recorded elements es) where
  -- The numbers of a record.
  number_of : (k j : ℕ) → k < length es → j < record_width → get_or elements (record_width * k + j) 0 ≡ get_or (record_of (element_at es k)) j 0
  number_of k j h l = sym (get_or-take (record_width * length es) elements (record_width * k + j) 0 (omega arith)) ∙ ap (λ (t : List ℕ). get_or t (record_width * k + j) 0) r ∙ records_number es k j h l

  pub recorded_name : (k : ℕ) → k < length es → get_or elements (record_width * k) 0 ≡ (element_at es k).at
  recorded_name k h = let z : record_width * k + 0 ≡ record_width * k = omega arith in rw z at (number_of k 0 h (omega arith))

  pub recorded_start : (k : ℕ) → k < length es → get_or elements (record_width * k + 2) 0 ≡ (element_at es k).start
  recorded_start k h = number_of k 2 h (omega arith)

  pub recorded_end : (k : ℕ) → k < length es → get_or elements (record_width * k + 3) 0 ≡ (element_at es k).end
  recorded_end k h = number_of k 3 h (omega arith)

  pub recorded_kind : (k : ℕ) → k < length es → get_or elements (record_width * k + 4) 0 ≡ cond (has_model (element_at es k).content) 1 0
  recorded_kind k h = number_of k 4 h (omega arith) ∙ by_content (element_at es k).content
    where
      by_content : (c : Content) → get_or (content_numbers c) 0 0 ≡ cond (has_model c) 1 0
      by_content empty = refl
      by_content (model g ps n) = refl

  -- The records of a type's first elements.
  recorded_take : (k : ℕ) → k ≤ length es → Recorded elements (take k es)
  recorded_take k h =
      rw (length-take-le k es h)
      (sym (take-take (record_width * k) (record_width * length es) elements (omega arith)) ∙ ap (λ (t : List ℕ). take (record_width * k) t) r ∙ records_take es k)

-- Reading again

pub content_at : (es : List Element) (e : ℕ) → 1 ≤ e → content_of es e ≡ (element_at es (e - 1)).content
content_at es zero h = absurd (not-suc-le-zero h)
content_at es (suc k) h = let z : suc k - 1 ≡ k = omega arith in rw z

-- The same list with one more element has the same one more.
last_same : (es : List Element) (x y : Element) → es ++ x ∷ [] ≡ es ++ y ∷ [] → x ≡ y
last_same es x y q = sym (element_at_next es x []) ∙ ap (λ (l : List Element). element_at l (length es)) q ∙ element_at_next es y []

-- The declaration was read, and its names and its table keep the content.
abbrev pub ReadsAs : (names table : List ℕ) → Content → Result declared.Element.Element Fault → Type 0
ReadsAs names table c (Ok d) = KeepsContent names table d.model c
ReadsAs names table c (Err f) = ⊥

module _ (long : ℕ) (s elements : List ℕ) (es : List Element) (read : type_file long s ≡ got es) (r : Recorded elements es) (e : ℕ) (from : 1 ≤ e) (to : e ≤ length es) (names table : List ℕ) where
  reads_declared : (at : ℕ) (fs : List Element) (d : Declared) → d.elements ≡ fs ++ bare (element_at es (e - 1)) ∷ [] → (x : Result declared.Element.Element Fault) → MeetsElement (length s) at names table fs x (got d)
      → ReadsAs names table (content_of es e) x
  reads_declared at fs d q (Ok y) m =
      let same : m.element ≡ bare (element_at es (e - 1)) = last_same fs _ _ (sym m.grows ∙ q) in
      subst (KeepsContent names table y.model) (ap (λ (z : Element). z.content) same ∙ sym (content_at es e from)) m.content
  reads_declared at fs d q (Err f) m = m

  pub reads_again : (at : ℕ) (x : Result declared.Element.Element Fault) → at ≡ get_or elements (record_width * (e - 1)) 0
      → ((fs : List Element) → length fs ≡ e - 1 → Recorded elements fs → MeetsElement (length s) at names table fs x (element long s at fs)) → ReadsAs names table (content_of es e) x
  reads_again at x q m =
      let k : ℕ = e - 1 in
      let (d, g, w) = type_file_again long s es read k (omega arith) in
      let stands : at ≡ (element_at es k).at = q ∙ recorded_name elements es r k (omega arith) in
      let before : List Element = take k (bares es) in
      let whole = bares_length es in
      reads_declared at before d w x
      (subst (MeetsElement (length s) at names table before x) (rw stands g) (m before (length-take-le k (bares es) (omega arith)) (recorded_take elements (bares es) (recorded_bares elements es r) k (omega arith))))
