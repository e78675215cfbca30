-- Laws of the table of elements: what is written of an element is its record, behind those before.
use Rattle.std.specs.Prelude.{ℕ, refl, Option, Some, None, ◌+◌, ◌*◌, ◌≤◌, ◌<◌, ◌≡◌, List, [], ◌∷◌, ◌++◌, false, length, take, set, eqb}
use Rattle.std.proofs.Common.{sym, ap, ◌∙◌, append-nil, append_assoc, arith, add-one, length-append, length-set, take-suc-set, eqb-true}
use Rattle.rules.specs.TypeFile.{Content, empty, model, Element, earlier}
use Rattle.rules.specs.Judge.{records, content_numbers, first_repeated, record_width}
use Rattle.basic_laws.specs.Truth.{bool_cases}
use Rattle.element_names.specs.Names.{Recorded}
use Rattle.element_reader.specs.Keeps.{bit}
use Rattle.element_content.specs.declared.Model.{Model}
use Rattle.element_content.specs.Kept.{KeepsContent}
use Rattle.element_reader.specs.declared as declared
use Rattle.element_records.specs.Progress.{kind_of, tokens_of, numbers_of}
use Rattle.element_names.specs.Records.{record_of}

-- One more element.

pub length_more : (es : List Element) (x : Element) → length (es ++ x ∷ []) ≡ length es + 1
length_more es x = length-append es (x ∷ [])

pub records_more : (es : List Element) (x : Element) → records (es ++ x ∷ []) ≡ records es ++ record_of x
unfolding records
records_more [] x = ap (λ (l : List ℕ). x.at ∷ x.size ∷ x.start ∷ x.end ∷ l) (append-nil (content_numbers x.content))
records_more (e ∷ es) x =
    ap (λ (l : List ℕ). e.at ∷ e.size ∷ e.start ∷ e.end ∷ l) (rw (records_more es x) (sym (append_assoc (content_numbers e.content) (records es) (record_of x))))

-- The first "&" that is refused is one of those before, or of the element.
pub repeated_more : (es : List Element) (x : Element) → first_repeated (es ++ x ∷ []) ≡ earlier (first_repeated es) x.repeated
unfolding first_repeated
repeated_more [] x = bool_cases (eqb x.repeated 0) (λ e. rw (e, first_repeated) (sym (eqb-true x.repeated 0 e))) (λ e. rw (e, first_repeated))
repeated_more (e ∷ es) x = bool_cases (eqb e.repeated 0) (λ y. rw (y, first_repeated) (repeated_more es x)) (λ y. rw (y, first_repeated) (sym (some y)))
  where
    some : eqb e.repeated 0 ≡ false → earlier e.repeated x.repeated ≡ e.repeated
    some y = rw (y, earlier)

-- What the code writes of an element is its record.
module _ (names table : List ℕ) (e : declared.Element.Element) (x : Element) where
  content_kept : (m : Option Model) (c : Content) → KeepsContent names table m c → ◌≡◌ {A = List ℕ} (kind_of m ∷ tokens_of m ∷ []) (content_numbers c)
  content_kept None empty k = refl
  content_kept None (model g ps n) k = absurd k
  content_kept (Some m) empty k = absurd k
  content_kept (Some m) (model g ps n) k = rw k.0

  pub numbers_kept : e.offset ≡ x.at → e.size ≡ x.size → bit e.start ≡ x.start → bit e.end ≡ x.end → KeepsContent names table e.model x.content → numbers_of e ≡ record_of x
  numbers_kept a b c d k = rw (a, b, c, d) (ap (λ (l : List ℕ). x.at ∷ x.size ∷ x.start ∷ x.end ∷ l) (content_kept e.model x.content k))

pub recorded_more : (before after : List ℕ) (k : ℕ) (e : declared.Element.Element) (es : List Element) (x : Element) → k ≡ length es → Recorded before es
    → take (record_width * (k + 1)) after ≡ take (record_width * k) before ++ numbers_of e → numbers_of e ≡ record_of x → Recorded after (es ++ x ∷ [])
recorded_more before after k e es x c r w q =
    rw (length_more es x, records_more es x, ← r, ← q, ← c) w

-- The six numbers as the code has them.
pub six_numbers : (e : declared.Element.Element) {a b c d : ℕ} → a ≡ bit e.start → b ≡ bit e.end → c ≡ kind_of e.model → d ≡ tokens_of e.model
    → ◌≡◌ {A = List ℕ} (e.offset ∷ e.size ∷ a ∷ b ∷ c ∷ d ∷ []) (numbers_of e)
six_numbers e p q r t = rw (p, q, r, t)

-- The writes that put a record behind those before.
put_one : (l : List ℕ) (i j a : ℕ) → j ≡ i + 1 → i < length l → take j (set l i a) ≡ take i l ++ a ∷ []
put_one l i j a e h = rw (e, add-one i) (take-suc-set l i a h)

pub put_six : (l : List ℕ) (n m a b c d e f : ℕ) → m ≡ n + record_width → m ≤ length l
    → take m (set (set (set (set (set (set l n a) (n + 1) b) (n + 2) c) (n + 3) d) (n + 4) e) (n + 5) f) ≡ take n l ++ a ∷ b ∷ c ∷ d ∷ e ∷ f ∷ []
put_six l n m a b c d e f q h =
    let l₁ : List ℕ = set l n a in
    let l₂ : List ℕ = set l₁ (n + 1) b in
    let l₃ : List ℕ = set l₂ (n + 2) c in
    let l₄ : List ℕ = set l₃ (n + 3) d in
    let l₅ : List ℕ = set l₄ (n + 4) e in
    let n₁ : length l₁ ≡ length l = length-set l n a in
    let n₂ : length l₂ ≡ length l = length-set l₁ (n + 1) b ∙ n₁ in
    let n₃ : length l₃ ≡ length l = length-set l₂ (n + 2) c ∙ n₂ in
    let n₄ : length l₄ ≡ length l = length-set l₃ (n + 3) d ∙ n₃ in
    let n₅ : length l₅ ≡ length l = length-set l₄ (n + 4) e ∙ n₄ in
    put_one l₅ (n + 5) m f (omega arith) (omega arith)
    ∙ ap (λ (t : List ℕ). t ++ f ∷ []) (put_one l₄ (n + 4) (n + 5) e (omega arith) (omega arith))
    ∙ ap (λ (t : List ℕ). t ++ e ∷ [] ++ f ∷ []) (put_one l₃ (n + 3) (n + 4) d (omega arith) (omega arith))
    ∙ ap (λ (t : List ℕ). t ++ d ∷ [] ++ e ∷ [] ++ f ∷ []) (put_one l₂ (n + 2) (n + 3) c (omega arith) (omega arith))
    ∙ ap (λ (t : List ℕ). t ++ c ∷ [] ++ d ∷ [] ++ e ∷ [] ++ f ∷ []) (put_one l₁ (n + 1) (n + 2) b (omega arith) (omega arith))
    ∙ ap (λ (t : List ℕ). t ++ b ∷ [] ++ c ∷ [] ++ d ∷ [] ++ e ∷ [] ++ f ∷ []) (put_one l n (n + 1) a (omega arith) (omega arith))
    ∙ simp append_assoc
