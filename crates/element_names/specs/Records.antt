-- Laws of the table of elements: the records in it, and a name looked for among them.
use Rattle.std.specs.Prelude.{ℕ, Option, Some, None, is_some, IfSome, zero, suc, ◌+◌, ◌*◌, ◌≤◌, ◌<◌, ◌≡◌, refl, Bool, true, false, List, [], ◌∷◌, length, drop, get_or, eqb, leb}
use Rattle.std.proofs.Common.{sym, ap, ◌∙◌, arith, not-suc-le-zero, le_of_suc-le-suc, suc-add, get_or-take, eq-eqb, ne_eqb, le-leb}
use Rattle.std.proofs.lemmas.Bool.{false≢true}
use Rattle.std.proofs.Math.ListN.{drop_of_length-le}
use Rattle.rules.specs.Bytes.{byte_at, fold, same_text}
use Rattle.rules.specs.TypeFile.{Content, empty, model, declared_from}
use Rattle.rules.specs.TypeFile as rules
use Rattle.rules.specs.Judge.{records, content_numbers, record_width}
use Rattle.rules.specs.Elements.{is_named}
use Rattle.rules.specs.Lookup.{is_alike, compared}
use Rattle.layout.specs.declared.ElementNo.{ElementNo}
use Rattle.element_names.specs.Names.{Recorded, name_at, number_of}

-- The six numbers of an element's record.
abbrev pub record_of : rules.Element → List ℕ
record_of x = x.at ∷ x.size ∷ x.start ∷ x.end ∷ content_numbers x.content

-- The k-th element of es, and the two numbers that its record begins with.
pub record RecordAt (numbers : List ℕ) (es : List rules.Element) (k : ℕ) : Type 0 where
  pub element : rules.Element
  pub stands : drop k es ≡ element ∷ drop (k + 1) es
  pub at : get_or numbers (record_width * k) 0 ≡ element.at
  pub size : get_or numbers (record_width * k + 1) 0 ≡ element.size

records_first : (e : rules.Element) (es : List rules.Element) → RecordAt (records (e ∷ es)) (e ∷ es) zero
unfolding records
records_first e es = record { element = e; stands = refl; at = refl; size = refl }

-- What stands behind the first record.
records_later : (e : rules.Element) (es : List rules.Element) (j : ℕ) → get_or (records (e ∷ es)) (record_width + j) 0 ≡ get_or (records es) j 0
unfolding records
records_later e es j = by_content e.content refl
  where
    six : record_width + j ≡ suc (suc (suc (suc (suc (suc j)))))
    six = omega arith

    by_content : (c : Content) → e.content ≡ c → get_or (records (e ∷ es)) (record_width + j) 0 ≡ get_or (records es) j 0
    by_content empty q = rw (six, q)
    by_content (model g ps n) q = rw (six, q)

records_at : (es : List rules.Element) (k : ℕ) → k < length es → RecordAt (records es) es k
records_at [] k h = absurd (not-suc-le-zero h)
records_at (e ∷ es) zero h = records_first e es
records_at (e ∷ es) (suc k) h = later (records_at es k (le_of_suc-le-suc h))
  where
    at_is : record_width * suc k ≡ record_width + record_width * k
    at_is = omega arith

    size_is : record_width * suc k + 1 ≡ record_width + (record_width * k + 1)
    size_is = omega arith

    later : RecordAt (records es) es k → RecordAt (records (e ∷ es)) (e ∷ es) (suc k)
    later r = record {
      element = r.element;
      stands = rw (suc-add k 1) r.stands;
      at = rw (at_is, records_later e es (record_width * k)) r.at;
      size = rw (size_is, records_later e es (record_width * k + 1)) r.size;
    }

-- Records at the start of a longer table.
pub recorded_at : (elements : List ℕ) (es : List rules.Element) (k : ℕ) → Recorded elements es → k < length es → RecordAt elements es k
recorded_at elements es k r h =
    let x = records_at es k h in
    let numbers : (j : ℕ) → j < record_width * length es → get_or elements j 0 ≡ get_or (records es) j 0 = λ j l. sym (get_or-take (record_width * length es) elements j 0 l) ∙ ap (λ (l : List ℕ). get_or l j 0) r in
    record {
      element = x.element;
      stands = x.stands;
      at = numbers (record_width * k) (omega arith) ∙ x.at;
      size = numbers (record_width * k + 1) (omega arith) ∙ x.size;
    }

-- A name of another length or first letter is another name.
pub unlike_other : (s : List ℕ) (e : rules.Element) (t : List ℕ) (at size : ℕ) → 1 ≤ size → is_alike s e t at size ≡ false → is_named s e t at size ≡ false
unfolding same_text
unlike_other s e t at zero l q = absurd (omega arith)
unlike_other s e t at (suc n) l q = by_size (eqb e.size (suc n)) refl
  where
    by_size : (b : Bool) → eqb e.size (suc n) ≡ b → is_named s e t at (suc n) ≡ false
    by_size false z = rw (z, is_named)
    by_size true z = rw (z, is_named, same_text, rw z at q)

-- What the code tests of a record, one after the other.
module _ (s elements : List ℕ) (k at size : ℕ) {m : ℕ} (read : m ≡ get_or elements (record_width * k + 1) 0) where
  pub alike_size : (m ≡ size → ⊥) → false ≡ is_alike s (name_at elements k) s at size
  alike_size n = rw (← read, ne_eqb _ _ n)

  pub alike_first : m ≡ size → {o b c f g : ℕ} → o ≡ get_or elements (record_width * k) 0 → b ≡ byte_at s o → f ≡ fold b → c ≡ byte_at s at → g ≡ fold c
      → eqb f g ≡ is_alike s (name_at elements k) s at size
  alike_first e o b f c g = rw (f, b, o, g, c, ← read, eq-eqb _ _ e)

-- A lookup of the name of this size at `at`: with n names compared, what is found among the elements from the k-th on is what is found among all.
pub record Seeks (s : List ℕ) (es : List rules.Element) (at size k n : ℕ) : Type 0 where
  pub answer : declared_from (k + 1) s (drop k es) at size ≡ declared_from 1 s es at size
  pub count : n + compared s (drop k es) s at size ≡ compared s es s at size

module _ (s : List ℕ) (at size : ℕ) where
  pub seeks_start : (es : List rules.Element) {k n : ℕ} → k ≡ 0 → n ≡ 0 → Seeks s es at size k n
  seeks_start es e q = rw (e, q) (record { answer = refl; count = omega arith })

  -- One element is passed.
  module _ (e : rules.Element) (es : List rules.Element) where
    here_answer : (k : ℕ) → is_named s e s at size ≡ true → declared_from k s (e ∷ es) at size ≡ k
    unfolding declared_from
    here_answer k q = rw (q, declared_from)

    here_count : is_alike s e s at size ≡ true → is_named s e s at size ≡ true → compared s (e ∷ es) s at size ≡ 1
    unfolding compared
    here_count a q = rw (a, q, compared)

    later_answer : (k : ℕ) → is_named s e s at size ≡ false
        → declared_from k s (e ∷ es) at size ≡ declared_from (k + 1) s es at size
    unfolding declared_from
    later_answer k q = rw (q, declared_from)

    later_count : is_alike s e s at size ≡ true → is_named s e s at size ≡ false → compared s (e ∷ es) s at size ≡ suc (compared s es s at size)
    unfolding compared
    later_count a q = rw (a, q, compared)

    passed_count : is_alike s e s at size ≡ false → compared s (e ∷ es) s at size ≡ compared s es s at size
    unfolding compared
    passed_count a = rw (a, compared)

  -- A turn of the loop at the k-th record, where n names were compared.
  module _ (elements : List ℕ) (es : List rules.Element) (r : Recorded elements es) (k n : ℕ) (h : k < length es) (seeks : Seeks s es at size k n) where
    x : RecordAt elements es k
    x = recorded_at elements es k r h

    alike_is : {v : Bool} → is_alike s (name_at elements k) s at size ≡ v → is_alike s x.element s at size ≡ v
    alike_is a = rw (← x.at, ← x.size) a

    named_is : is_alike s (name_at elements k) s at size ≡ true → {v : Bool} → same_text s (get_or elements (record_width * k) 0) s at size ≡ v → is_named s x.element s at size ≡ v
    named_is a {v} q = by_size (eqb x.element.size size) refl
      where
        by_size : (b : Bool) → eqb x.element.size size ≡ b → is_named s x.element s at size ≡ v
        by_size true z = rw (z, is_named, ← x.at) q
        by_size false z = absurd (false≢true (rw z at (alike_is a)))

    pub seeks_found : is_alike s (name_at elements k) s at size ≡ true
        → same_text s (get_or elements (record_width * k) 0) s at size ≡ true → {j m : ℕ} → j ≡ k + 1 → m ≡ n + 1
        → (j ≡ declared_from 1 s es at size) × (m ≡ compared s es s at size)
    seeks_found a q f e =
        let w = named_is a q in
        let rest = drop (k + 1) es in
        let d : declared_from (k + 1) s (drop k es) at size ≡ k + 1 =
        rw x.stands (here_answer x.element rest (k + 1) w) in
        let c : compared s (drop k es) s at size ≡ 1 = rw x.stands (here_count x.element rest (alike_is a) w) in
        (f ∙ sym d ∙ seeks.answer, omega (arith, seeks.count))

    pub seeks_other : is_alike s (name_at elements k) s at size ≡ true
        → same_text s (get_or elements (record_width * k) 0) s at size ≡ false → {m : ℕ} → m ≡ n + 1
        → Seeks s es at size (k + 1) m
    seeks_other a q e =
        let w = named_is a q in
        let rest = drop (k + 1) es in
        let d : declared_from (k + 1) s (drop k es) at size ≡ declared_from (k + 1 + 1) s rest at size =
        rw x.stands (later_answer x.element rest (k + 1) w) in
        let c : compared s (drop k es) s at size ≡ suc (compared s rest s at size) =
        rw x.stands (later_count x.element rest (alike_is a) w) in
        record { answer = sym d ∙ seeks.answer; count = omega (arith, seeks.count) }

    pub seeks_passed : 1 ≤ size → is_alike s (name_at elements k) s at size ≡ false → {m : ℕ} → m ≡ n
        → Seeks s es at size (k + 1) m
    seeks_passed l a e =
        let w = unlike_other s x.element s at size l (alike_is a) in
        let rest = drop (k + 1) es in
        let d : declared_from (k + 1) s (drop k es) at size ≡ declared_from (k + 1 + 1) s rest at size =
        rw x.stands (later_answer x.element rest (k + 1) w) in
        let c : compared s (drop k es) s at size ≡ compared s rest s at size =
        rw x.stands (passed_count x.element rest (alike_is a)) in
        record { answer = sym d ∙ seeks.answer; count = omega (arith, seeks.count) }

  -- Behind the last element the name is not declared.
  pub seeks_none : (es : List rules.Element) (k n : ℕ) → length es ≤ k → Seeks s es at size k n
      → (0 ≡ declared_from 1 s es at size) × (n ≡ compared s es s at size)
  unfolding declared_from compared
  seeks_none es k n h seeks =
      let d = drop_of_length-le es h in
      (rw d at seeks.answer, omega (arith, rw d at seeks.count))

-- An element that was looked for is found or not.
pub number_none : (r : Option ElementNo) → ((e : ElementNo) → r ≡ Some e → ⊥) → number_of r ≡ 0
number_none None h = refl
number_none (Some e) h = absurd (h e refl)

pub number_some : (n : ℕ) (r : Option ElementNo) {k : ℕ} → IfSome r (λ e. (1 ≤ e.0) × (e.0 ≤ n)) → number_of r ≡ k
    → {b : Bool} → b ≡ is_some r → b ≡ leb 1 k
number_some n None w q h = rw (← q) h
number_some n (Some e) w q h = h ∙ sym (rw (← q) (le-leb 1 e.0 w.0))
