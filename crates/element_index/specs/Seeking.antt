-- Laws of the index: how a further element is put into it, and how a name is looked up in its bucket.
use Prim.Native.Nat.{ℕ, zero, suc, ◌+◌, ◌-◌, ◌*◌, ◌%◌, ◌≤◌, ◌<◌}
use Rattle.std.specs.Prelude.{◌≡◌, Bool, true, false, ◌&&◌, List, [], ◌∷◌, get_or, set, drop, replicate, eqb, leb, ltb}
use Rattle.std.proofs.Math.Path.{refl, sym}
use Rattle.std.proofs.Common.{ap, ◌∙◌, not-suc-le-zero, le_of_suc-le-suc, add-one, length-set, get_or-set_same, get_or-set_other, eq-eqb, eqb-true, ne_eqb, leb-true, ltb-true, lt-ltb, le-ltb, le-leb}
use Rattle.std.proofs.Math.Decide.{ℕ_discrete}
use native.Mathlib.Omega.{arith}
use Rattle.std.proofs.Math.ListN.{length}
use Rattle.std.proofs.lemmas.List.{length-replicate, get_or-replicate}
use Rattle.std.proofs.Math.Seq.{drop-length}
use Rattle.std.proofs.lemmas.Bool.{lt-leb}
use Rattle.rules.specs.Settings.{Settings, most_name_length}
use Rattle.rules.specs.Bytes.{byte_at, letter, fold, same_text, element_limit}
use Rattle.rules.specs.TypeFile.{Element}
use Rattle.rules.specs.Judge.{Accepts, record_width}
use Rattle.rules.specs.Elements.{element_at, is_named, number_from, number_of}
use Rattle.rules.specs.Lookup.{is_alike, compared}
use Rattle.layout.specs.Sizes.{INDEX, CONTENTS}
use Rattle.basic_laws.specs.Truth.{or_left, or_right, or_cases, and_left, and_right, and_both, not_true, not_both, bool_cases}
use Rattle.rules_laws.specs.Offered.{offered_range}
use Rattle.rules_laws.specs.Within.{type_file_count}
use Rattle.element_names.specs.Records.{unlike_other}
use Rattle.element_reader.specs.Keeps.{Recorded}
use Rattle.element_reader.specs.Ways.{recorded_at}
use Rattle.type_laws.specs.Made.{type_file_made}
use Rattle.type_laws.specs.Again.{type_file_sizes}
use Rattle.element_index.specs.Indexed.{bucket_of, BUCKETS, is_in, next_from, follows, Indexed, put_in}

-- The next number that passes

-- Above k - 1, where k is one of n: k itself if it passes, else the next above k.
module _ (f : ℕ → Bool) (n k : ℕ) (from : 1 ≤ k) (to : k ≤ n) where
  next_here : f k ≡ true → next_from f (n - (k - 1)) (k - 1) ≡ k
  unfolding next_from
  next_here e =
      let z : n - (k - 1) ≡ suc (n - k) = omega arith in
      let y : k - 1 + 1 ≡ k = omega arith in
      rw (z, next_from, y, e, y)

  next_above : f k ≡ false → next_from f (n - (k - 1)) (k - 1) ≡ next_from f (n - k) k
  unfolding next_from
  next_above e =
      let z : n - (k - 1) ≡ suc (n - k) = omega arith in
      let y : k - 1 + 1 ≡ k = omega arith in
      rw (z, next_from, y, e, y)

-- The bucket of a name

bucket_range : (first size : ℕ) → 1 ≤ size → size ≤ most_name_length → bucket_of first size < BUCKETS
bucket_range first size l h = omega arith

-- A letter of either case by its number in the alphabet.
letter_fold : (b : ℕ) → letter b ≡ true → fold b ≡ 64 + b % 32
unfolding letter fold
letter_fold b e =
    bool_cases (leb 97 b && leb b 122) lower λ x. or_cases (leb 65 b && leb b 90) (leb 97 b && leb b 122) (upper x) (λ y. absurd (not_both x y)) e
  where
    lower : leb 97 b && leb b 122 ≡ true → fold b ≡ 64 + b % 32
    lower y =
        let l = leb-true 97 b (and_left _ _ y) in
        let h = leb-true b 122 (and_right (leb 97 b) _ y) in
        rw (y, fold) (omega arith)

    upper : leb 97 b && leb b 122 ≡ false → leb 65 b && leb b 90 ≡ true → fold b ≡ 64 + b % 32
    upper x y =
        let l = leb-true 65 b (and_left _ _ y) in
        let h = leb-true b 90 (and_right (leb 65 b) _ y) in
        rw (x, fold) (omega arith)

-- Names that begin with a letter are in one bucket exactly where they are equally long and their first letters the same, folded.
module _ (s : List ℕ) (e : Element) (t : List ℕ) (at size : ℕ) (p : letter (byte_at s e.at) ≡ true) (q : letter (byte_at t at) ≡ true)
    (l : 1 ≤ e.size) (some : 1 ≤ size) where
  bucket_alike : bucket_of (byte_at s e.at) e.size ≡ bucket_of (byte_at t at) size → is_alike s e t at size ≡ true
  bucket_alike z =
      let f = letter_fold (byte_at s e.at) p in
      let g = letter_fold (byte_at t at) q in
      and_both (eq-eqb e.size size (omega arith)) (eq-eqb (fold (byte_at s e.at)) (fold (byte_at t at)) (omega arith))

  alike_bucket : is_alike s e t at size ≡ true → bucket_of (byte_at s e.at) e.size ≡ bucket_of (byte_at t at) size
  alike_bucket x =
      let f = letter_fold (byte_at s e.at) p in
      let g = letter_fold (byte_at t at) q in
      let a = eqb-true e.size size (and_left _ _ x) in
      let b = eqb-true (fold (byte_at s e.at)) (fold (byte_at t at)) (and_right (eqb e.size size) _ x) in
      omega arith

-- Exactly the letters fold to those from A to Z.
letter_folds : (b : ℕ) → letter b ≡ true → (65 ≤ fold b) × (fold b ≤ 90)
unfolding letter fold
letter_folds b e =
    bool_cases (leb 97 b && leb b 122) lower λ x. or_cases (leb 65 b && leb b 90) (leb 97 b && leb b 122) (upper x) (λ y. absurd (not_both x y)) e
  where
    lower : leb 97 b && leb b 122 ≡ true → (65 ≤ fold b) × (fold b ≤ 90)
    lower y =
        let l = leb-true 97 b (and_left _ _ y) in
        let h = leb-true b 122 (and_right (leb 97 b) _ y) in
        rw (y, fold) (omega arith, omega arith)

    upper : leb 97 b && leb b 122 ≡ false → leb 65 b && leb b 90 ≡ true → (65 ≤ fold b) × (fold b ≤ 90)
    upper x y = rw (x, fold) (leb-true 65 b (and_left _ _ y), leb-true b 90 (and_right (leb 65 b) _ y))

folds_letter : (b : ℕ) → 65 ≤ fold b → fold b ≤ 90 → letter b ≡ true
unfolding letter fold
folds_letter b l h =
    bool_cases (leb 97 b && leb b 122) (λ y. or_right (leb 65 b && leb b 90) y) λ y.
    or_left (leb 97 b && leb b 122) (and_both (le-leb 65 b (rw (y, fold) at l)) (le-leb b 90 (rw (y, fold) at h)))

-- A name that begins with no letter is not even alike to one that does.
apart_alike : (s : List ℕ) (e : Element) (t : List ℕ) (at size : ℕ) → letter (byte_at s e.at) ≡ true → letter (byte_at t at) ≡ false
    → is_alike s e t at size ≡ false
apart_alike s e t at size p q =
    not_true _ λ x.
    let same = eqb-true (fold (byte_at s e.at)) (fold (byte_at t at)) (and_right (eqb e.size size) _ x) in
    let (l, h) = letter_folds (byte_at s e.at) p in
    not_both q (folds_letter (byte_at t at) (omega arith) (omega arith))

-- What is recorded of an element

element_at_drop : (es : List Element) (k : ℕ) (e : Element) (fs : List Element) → drop k es ≡ e ∷ fs → element_at es k ≡ e
unfolding element_at
element_at_drop [] zero e fs q = absurd (let z : ◌≡◌ {A = ℕ} 0 1 = cc in omega arith)
element_at_drop [] (suc k) e fs q = absurd (let z : ◌≡◌ {A = ℕ} 0 1 = cc in omega arith)
element_at_drop (x ∷ es) zero e fs q = cc
element_at_drop (x ∷ es) (suc k) e fs q = element_at_drop es k e fs q

module _ (elements : List ℕ) (es : List Element) (r : Recorded elements es) (k : ℕ) (h : k < length es) where
  pub recorded_offset : get_or elements (record_width * k) 0 ≡ (element_at es k).at
  recorded_offset =
      let x = recorded_at elements es k r h in
      rw (element_at_drop es k x.element _ x.stands) x.at

  pub recorded_size : get_or elements (record_width * k + 1) 0 ≡ (element_at es k).size
  recorded_size =
      let x = recorded_at elements es k r h in
      rw (element_at_drop es k x.element _ x.stands) x.size

-- A lookup, behind the first j elements

drop_element : (es : List Element) (j : ℕ) → j < length es → drop j es ≡ element_at es j ∷ drop (j + 1) es
unfolding element_at
drop_element es j h = rw add-one (go es j h)
  where
    go : (es : List Element) (j : ℕ) → j < length es → drop j es ≡ element_at es j ∷ drop (suc j) es
    go [] j h = absurd (not-suc-le-zero h)
    go (e ∷ es) zero h = refl
    go (e ∷ es) (suc j) h = go es j (le_of_suc-le-suc h)

module _ (s : List ℕ) (es : List Element) (t : List ℕ) (at size : ℕ) where
  abbrev pub answer_from : ℕ → ℕ
  answer_from j = number_from (j + 1) s (drop j es) t at size

  abbrev pub count_from : ℕ → ℕ
  count_from j = compared s (drop j es) t at size

  module _ (j : ℕ) (h : j < length es) where
    -- The next has the name: it is alike, and the last that is compared.
    found_answer : is_named s (element_at es j) t at size ≡ true → answer_from j ≡ j + 1
    unfolding number_from
    found_answer y = rw (drop_element es j h, y, number_from)

    found_count : is_alike s (element_at es j) t at size ≡ true → is_named s (element_at es j) t at size ≡ true → count_from j ≡ 1
    unfolding compared
    found_count x y = rw (drop_element es j h, x, y, compared)

    -- It has another name, and is compared or passed over.
    other_answer : is_named s (element_at es j) t at size ≡ false → answer_from j ≡ answer_from (j + 1)
    unfolding number_from
    other_answer y = rw (drop_element es j h, y, number_from)

    other_count : is_alike s (element_at es j) t at size ≡ true → is_named s (element_at es j) t at size ≡ false → count_from j ≡ suc (count_from (j + 1))
    unfolding compared
    other_count x y = rw (drop_element es j h, x, y, compared)

    passed_count : is_alike s (element_at es j) t at size ≡ false → count_from j ≡ count_from (j + 1)
    unfolding compared
    passed_count x = rw (drop_element es j h, x, compared)

-- What is due from the element number k on: 0 where k is 0, and there is none.
abbrev pub due : (ℕ → ℕ) → ℕ → ℕ
due f zero = 0
due f (suc j) = f j

due_some : (f : ℕ → ℕ) (k : ℕ) → 1 ≤ k → due f k ≡ f (k - 1)
due_some f zero l = absurd (omega arith)
due_some f (suc j) l = ap f (omega arith)

due_here : (f : ℕ → ℕ) (j : ℕ) → due f (j + 1) ≡ f j
due_here f j = ap (due f) (add-one j)

-- The bucket of the name of this size at `at` of t.
abbrev pub bucket_at : List ℕ → (at size : ℕ) → ℕ
bucket_at t at size = bucket_of (byte_at t at) size

-- What the code reads of the bucket of a name.
pub bucket_read : (index t : List ℕ) (at size first to k : ℕ) → first ≡ byte_at t at → to ≡ CONTENTS + bucket_of first size → k ≡ get_or index to 0
    → k ≡ get_or index (CONTENTS + bucket_at t at size) 0
bucket_read index t at size first to k f b e = rw (b, f) at e

-- What it reads of the first byte.
pub letter_read : (t : List ℕ) (at first : ℕ) {r v : Bool} → first ≡ byte_at t at → r ≡ letter first → r ≡ v → letter (byte_at t at) ≡ v
letter_read t at first f g e = rw (← f, ← g) e

-- The element k, larger than the one before it, is in the bucket of the name, or is 0; the answer is what is due from it on, and so is what is yet to be counted beside n.
pub record Seeks (s : List ℕ) (es : List Element) (t : List ℕ) (at size before k n : ℕ) : Type 0 where
  pub within : k ≤ length es
  pub rises : 1 ≤ k → before < k
  pub inside : 1 ≤ k → is_in s es (bucket_at t at size) k ≡ true
  pub answer : due (answer_from s es t at size) k ≡ number_of s es t at size
  pub count : n + due (count_from s es t at size) k ≡ compared s es t at size

pub seeks_counted : {s : List ℕ} {es : List Element} {t : List ℕ} {at size before k n m : ℕ} → n ≡ m → Seeks s es t at size before k n → Seeks s es t at size before k m
seeks_counted e w = rw (← e) w

-- What the code tests.
module _ (s elements : List ℕ) (before k size : ℕ) where
  pub follows_true : {r : Bool} → r ≡ follows s elements before k size → r ≡ true → (before < k) × (k ≤ element_limit) × (get_or elements (record_width * (k - 1)) 0 + size ≤ length s)
  follows_true e q =
      let w = rw q at e in
      let z = and_right (ltb before k) _ (sym w) in
      (ltb-true before k (and_left _ _ (sym w)), leb-true k element_limit (and_left _ _ z), leb-true _ _ (and_right (leb k element_limit) _ z))

-- No element between j and k is alike, nor any behind j where k is 0.
record Leads (s : List ℕ) (es : List Element) (t : List ℕ) (at size j k : ℕ) : Type 0 where
  within : k ≤ length es
  rises : 1 ≤ k → j < k
  inside : 1 ≤ k → is_in s es (bucket_at t at size) k ≡ true
  answer : due (answer_from s es t at size) k ≡ answer_from s es t at size j
  count : due (count_from s es t at size) k ≡ count_from s es t at size j

module _ {s : List ℕ} {es : List Element} {elements index : List ℕ} (t : List ℕ) (at size : ℕ) (x : Indexed s es elements index) (some : 1 ≤ size)
    (named : letter (byte_at t at) ≡ true) where
  module _ (j : ℕ) (h : j < length es) where
    letter_is : letter (byte_at s (element_at es j).at) ≡ true
    letter_is = (type_file_made x.settings.name_length s es x.accepted.elements j h).named

    size_some : 1 ≤ (element_at es j).size
    size_some = (type_file_sizes x.settings.name_length s es x.accepted.elements j h).0

    in_alike : eqb (bucket_of (byte_at s (element_at es j).at) (element_at es j).size) (bucket_at t at size) ≡ true → is_alike s (element_at es j) t at size ≡ true
    in_alike y = bucket_alike s (element_at es j) t at size letter_is named size_some some (eqb-true _ _ y)

    out_alike : eqb (bucket_of (byte_at s (element_at es j).at) (element_at es j).size) (bucket_at t at size) ≡ false → is_alike s (element_at es j) t at size ≡ false
    out_alike y = not_true _ (λ z. not_both y (eq-eqb _ _ (alike_bucket s (element_at es j) t at size letter_is named size_some some z)))

    other_name : is_alike s (element_at es j) t at size ≡ false → is_named s (element_at es j) t at size ≡ false
    other_name y = unlike_other s (element_at es j) t at size some y

  leads : (left j : ℕ) → j + left ≡ length es → Leads s es t at size j (next_from (is_in s es (bucket_at t at size)) left j)
  unfolding next_from number_from compared
  leads zero j e =
      let z : j ≡ length es = omega arith in
      let d = drop-length es in
      record { within = omega arith; rises = λ l. absurd (omega arith); inside = λ l. absurd (omega arith); answer = rw (z, d); count = rw (z, d) }
  leads (suc left) j e = bool_cases (is_in s es (bucket_at t at size) (j + 1)) here (further (leads left (j + 1) (omega arith)))
    where
      d : j + 1 - 1 ≡ j
      d = omega arith

      here : is_in s es (bucket_at t at size) (j + 1) ≡ true → Leads s es t at size j (next_from (is_in s es (bucket_at t at size)) (suc left) j)
      here y =
          rw (y, next_from)
          (record { within = omega arith; rises = λ _. omega arith; inside = λ _. y; answer = due_here (answer_from s es t at size) j; count = due_here (count_from s es t at size) j })

      further : Leads s es t at size (j + 1) (next_from (is_in s es (bucket_at t at size)) left (j + 1)) → is_in s es (bucket_at t at size) (j + 1) ≡ false → Leads s es t at size j (next_from (is_in s es (bucket_at t at size)) (suc left) j)
      further ih y =
          let out = out_alike j (omega arith) (rw d at y) in
          let other = other_name j (omega arith) out in
          rw (y, next_from)
          (record {
            within = ih.within;
            rises = λ l. let r = ih.rises l in omega arith;
            inside = ih.inside;
            answer = ih.answer ∙ sym (other_answer s es t at size j (omega arith) other);
            count = ih.count ∙ sym (passed_count s es t at size j (omega arith) out);
          })

  -- The next of the bucket behind the first j, where so much is due.
  seeks_from : (j n : ℕ) → j ≤ length es → answer_from s es t at size j ≡ number_of s es t at size → n + count_from s es t at size j ≡ compared s es t at size
      → {k : ℕ} → k ≡ next_from (is_in s es (bucket_at t at size)) (length es - j) j → Seeks s es t at size j k n
  seeks_from j n h a c {k} e =
      let w = leads (length es - j) j (omega arith) in
      rw e (record { within = w.within; rises = w.rises; inside = w.inside; answer = w.answer ∙ a; count = ap (λ (m : ℕ). n + m) w.count ∙ c })

  pub seeks_start : size ≤ most_name_length → {k : ℕ} → k ≡ get_or index (CONTENTS + bucket_at t at size) 0 → Seeks s es t at size 0 k 0
  unfolding number_of
  seeks_start short e =
      let z : length es - 0 ≡ length es = omega arith in
      seeks_from 0 0 (omega arith) refl (omega arith) (rw z (e ∙ x.smallest (bucket_at t at size) (bucket_range (byte_at t at) size some short)))

  module _ {before k n : ℕ} (seeks : Seeks s es t at size before k n) where
    module _ (more : 1 ≤ k) where
      stands : k - 1 < length es
      stands = let w = seeks.within in omega arith

      offset_is : get_or elements (record_width * (k - 1)) 0 ≡ (element_at es (k - 1)).at
      offset_is = recorded_offset elements es x.recorded (k - 1) stands

      alike : is_alike s (element_at es (k - 1)) t at size ≡ true
      alike = in_alike (k - 1) stands (seeks.inside more)

      -- What the code's test of its text says.
      named_is : {o : ℕ} {r v : Bool} → o ≡ get_or elements (record_width * (k - 1)) 0 → (fold (byte_at s o) ≡ fold (byte_at t at) → r ≡ same_text s o t at size) → r ≡ v → is_named s (element_at es (k - 1)) t at size ≡ v
      named_is {o} f g e =
          let z : o ≡ (element_at es (k - 1)).at = f ∙ offset_is in
          let first : fold (byte_at s o) ≡ fold (byte_at t at) = rw z (eqb-true _ _ (and_right (eqb (element_at es (k - 1)).size size) _ alike)) in
          rw (and_left (eqb (element_at es (k - 1)).size size) _ alike, is_named, ← offset_is, ← f, ← (g first)) e

      answer_is : answer_from s es t at size (k - 1) ≡ number_of s es t at size
      answer_is = sym (due_some (answer_from s es t at size) k more) ∙ seeks.answer

      count_is : n + count_from s es t at size (k - 1) ≡ compared s es t at size
      count_is = rw (due_some (count_from s es t at size) k more) at seeks.count

      -- The element's own name, which has the same size, lies within the type file.
      pub seeks_within : {o : ℕ} → o ≡ get_or elements (record_width * (k - 1)) 0 → o + size ≤ length s
      seeks_within f =
          let z = eqb-true (element_at es (k - 1)).size size (and_left _ _ alike) in
          omega (arith, offset_is, (type_file_sizes x.settings.name_length s es x.accepted.elements (k - 1) stands).2)

      module _ {o : ℕ} {r : Bool} (f : o ≡ get_or elements (record_width * (k - 1)) 0) (g : fold (byte_at s o) ≡ fold (byte_at t at) → r ≡ same_text s o t at size) where
        pub seeks_found : r ≡ true → (k ≡ number_of s es t at size) × (n + 1 ≡ compared s es t at size)
        seeks_found e =
            let y = named_is f g e in (
              omega (arith, answer_is, found_answer s es t at size (k - 1) stands y),
              omega (arith, count_is, found_count s es t at size (k - 1) stands alike y),
            )

        pub seeks_next : r ≡ false → {m : ℕ} → m ≡ get_or index k 0 → Seeks s es t at size k m (n + 1)
        seeks_next e q =
            let y = named_is f g e in
            let w = seeks.within in
            let z : k - 1 + 1 ≡ k = omega arith in
            let a : answer_from s es t at size (k - 1) ≡ answer_from s es t at size k = other_answer s es t at size (k - 1) stands y ∙ ap (answer_from s es t at size) z in
            let c : count_from s es t at size (k - 1) ≡ suc (count_from s es t at size k) = other_count s es t at size (k - 1) stands alike y ∙ ap (λ (j : ℕ). suc (count_from s es t at size j)) z in
            seeks_from k (n + 1) w (sym a ∙ answer_is) (omega (arith, count_is, c)) (q ∙ x.larger (bucket_at t at size) k more w (seeks.inside more))

    -- Where the search does not go on, there is no element: in an index each follows the one before.
    pub seeks_end : {r : Bool} → r ≡ follows s elements before k size → r ≡ false → (0 ≡ number_of s es t at size) × (n ≡ compared s es t at size)
    seeks_end f e = by_number (ℕ_discrete k 0)
      where
        by_number : Dec (k ≡ 0) → (0 ≡ number_of s es t at size) × (n ≡ compared s es t at size)
        by_number (yes z) = (rw z at seeks.answer, omega (arith, rw z at seeks.count))
        by_number (no ne) =
            let more : 1 ≤ k = omega arith in
            let w = seeks.within in
            let few = x.few in
            absurd (not_both (sym f ∙ e)
            (and_both (lt-ltb before k (seeks.rises more)) (and_both (le-leb k element_limit (omega arith)) (le-leb _ _ (seeks_within more refl)))))

-- A name that begins with no letter is compared with none, and no element has it.
module _ {s : List ℕ} {es : List Element} {elements index : List ℕ} (t : List ℕ) (at size : ℕ) (x : Indexed s es elements index) (some : 1 ≤ size)
    (other : letter (byte_at t at) ≡ false) where
  none_from : (left j : ℕ) → j + left ≡ length es → (answer_from s es t at size j ≡ 0) × (count_from s es t at size j ≡ 0)
  unfolding number_from compared
  none_from zero j e =
      let z : j ≡ length es = omega arith in
      let d = drop-length es in
      (rw (z, d), rw (z, d))
  none_from (suc left) j e =
      let h : j < length es = omega arith in
      let (a, n) = none_from left (j + 1) (omega arith) in
      let y = apart_alike s (element_at es j) t at size (type_file_made x.settings.name_length s es x.accepted.elements j h).named other in
      let z = unlike_other s (element_at es j) t at size some y in
      (other_answer s es t at size j h z ∙ a, passed_count s es t at size j h y ∙ n)

  pub none_found : (0 ≡ number_of s es t at size) × (0 ≡ compared s es t at size)
  unfolding number_of
  none_found = let (a, n) = none_from (length es) 0 (omega arith) in (sym a, sym n)

-- A further element

-- The elements above k are indexed.
pub record Filled (s : List ℕ) (es : List Element) (index : List ℕ) (k : ℕ) : Type 0 where
  pub len : length index ≡ INDEX
  pub smallest : (b : ℕ) → b < BUCKETS → get_or index (CONTENTS + b) 0 ≡ next_from (is_in s es b) (length es - k) k
  pub larger : (b j : ℕ) → k < j → j ≤ length es → is_in s es b j ≡ true → get_or index j 0 ≡ next_from (is_in s es b) (length es - j) j
  pub spare : (j : ℕ) → j ≤ k → j ≤ element_limit → get_or index j 0 ≡ 0
  pub behind : (j : ℕ) → length es < j → j ≤ element_limit → get_or index j 0 ≡ 0

pub filled_none : (s : List ℕ) (es : List Element) (index : List ℕ) (k : ℕ) → length es ≡ k → index ≡ replicate INDEX 0 → Filled s es index k
unfolding next_from
filled_none s es index k n e =
    let z : length es - k ≡ 0 = omega arith in
    record {
      len = rw e (length-replicate {A = ℕ} INDEX 0);
      smallest = λ b h. rw (e, z) (get_or-replicate INDEX (CONTENTS + b) 0 0 (omega arith));
      larger = λ b j l h x. absurd (omega arith);
      spare = λ j l h. rw e (get_or-replicate INDEX j 0 0 (omega arith));
      behind = λ j l h. rw e (get_or-replicate INDEX j 0 0 (omega arith));
    }

put_in_length : (index : List ℕ) (b k : ℕ) → length (put_in index b k) ≡ length index
put_in_length index b k = length-set (set index k (get_or index (CONTENTS + b) 0)) (CONTENTS + b) k ∙ length-set index k (get_or index (CONTENTS + b) 0)

-- What the code puts into the index, from what it reads of the record.
pub put_read : (index s : List ℕ) (k to first size at A Z : ℕ) → to ≡ CONTENTS + bucket_of first size → first ≡ byte_at s at → at ≡ A → size ≡ Z
    → set (set index k (get_or index to 0)) to k ≡ put_in index (bucket_of (byte_at s A) Z) k
put_read index s k to first size at A Z b f a z = rw (b, f, a, z)

-- The index after an element is put into it: at the bucket, at the element, and elsewhere.
module _ (index : List ℕ) (len : length index ≡ INDEX) (b k : ℕ) (in_range : b < BUCKETS) (few : k ≤ element_limit) where
  put_bucket : get_or (put_in index b k) (CONTENTS + b) 0 ≡ k
  put_bucket =
      let l = length-set index k (get_or index (CONTENTS + b) 0) in
      get_or-set_same (set index k (get_or index (CONTENTS + b) 0)) (CONTENTS + b) k 0 (omega arith)

  put_element : get_or (put_in index b k) k 0 ≡ get_or index (CONTENTS + b) 0
  put_element =
      get_or-set_other (set index k (get_or index (CONTENTS + b) 0)) (CONTENTS + b) k k 0 (omega arith)
      ∙ get_or-set_same index k (get_or index (CONTENTS + b) 0) 0 (omega arith)

  put_elsewhere : (j : ℕ) → (j ≡ CONTENTS + b → ⊥) → (j ≡ k → ⊥) → get_or (put_in index b k) j 0 ≡ get_or index j 0
  put_elsewhere j n m =
      get_or-set_other (set index k (get_or index (CONTENTS + b) 0)) (CONTENTS + b) j k 0 n ∙ get_or-set_other index k j (get_or index (CONTENTS + b) 0) 0 m

-- The bucket of the element k.
abbrev bucket_in : List ℕ → List Element → ℕ → ℕ
bucket_in s es k = bucket_of (byte_at s (element_at es (k - 1)).at) (element_at es (k - 1)).size

module _ (s : List ℕ) (es : List Element) (index : List ℕ) (k : ℕ) (in_range : bucket_in s es k < BUCKETS) (from : 1 ≤ k) (to : k ≤ length es) (few : length es ≤ element_limit)
    (done : Filled s es index k) where
  abbrev put : List ℕ
  put = put_in index (bucket_in s es k) k

  smallest_after : (b : ℕ) → b < BUCKETS → Dec (bucket_in s es k ≡ b) → get_or put (CONTENTS + b) 0 ≡ next_from (is_in s es b) (length es - (k - 1)) (k - 1)
  smallest_after b h (yes e) =
      put_at_lem (CONTENTS + b) (ap (λ (i : ℕ). CONTENTS + i) (sym e)) ∙ sym (next_here (is_in s es b) (length es) k from to (eq-eqb (bucket_in s es k) b e))
    where
      put_at_lem : (i : ℕ) → i ≡ CONTENTS + bucket_in s es k → get_or put i 0 ≡ k
      put_at_lem i z = rw z (put_bucket index done.len (bucket_in s es k) k in_range (omega arith))
  smallest_after b h (no ne) =
      put_elsewhere index done.len (bucket_in s es k) k in_range (omega arith) (CONTENTS + b) (λ e. ne (omega arith)) (omega arith)
      ∙ done.smallest b h
      ∙ sym (next_above (is_in s es b) (length es) k from to (ne_eqb _ _ ne))

  larger_after : (b j : ℕ) → k - 1 < j → j ≤ length es → is_in s es b j ≡ true → Dec (j ≡ k) → get_or put j 0 ≡ next_from (is_in s es b) (length es - j) j
  larger_after b j l h x (yes e) =
      let z : bucket_in s es k ≡ b = eqb-true _ _ (rw e at x) in
      rw (e, ← z) (put_element index done.len (bucket_in s es k) k in_range (omega arith) ∙ done.smallest (bucket_in s es k) in_range)
  larger_after b j l h x (no ne) =
      put_elsewhere index done.len (bucket_in s es k) k in_range (omega arith) j (omega arith) ne ∙ done.larger b j (omega arith) h x

  filled_put : Filled s es put (k - 1)
  filled_put =
      record {
        len = put_in_length index (bucket_in s es k) k ∙ done.len;
        smallest = λ b h. smallest_after b h (ℕ_discrete (bucket_in s es k) b);
        larger = λ b j l h x. larger_after b j l h x (ℕ_discrete j k);
        spare = λ j l h. put_elsewhere index done.len (bucket_in s es k) k in_range (omega arith) j (omega arith) (omega arith) ∙ done.spare j (omega arith) h;
        behind = λ j l h. put_elsewhere index done.len (bucket_in s es k) k in_range (omega arith) j (omega arith) (omega arith) ∙ done.behind j l h;
      }

-- The element k is put into the bucket of the name that its record says.
module _ {c : Settings} (s : List ℕ) (es : List Element) (elements : List ℕ) (k : ℕ) (accepted : Accepts c s es) (recorded : Recorded elements es) (from : 1 ≤ k) (to : k ≤ length es) where
  pub size_in : (1 ≤ get_or elements (record_width * (k - 1) + 1) 0) × (get_or elements (record_width * (k - 1) + 1) 0 ≤ most_name_length)
  size_in =
      let z = type_file_sizes c.name_length s es accepted.elements (k - 1) (omega arith) in
      let most = (offered_range c accepted.legible.offered).1 in
      let e = recorded_size elements es recorded (k - 1) (omega arith) in
      (omega arith, omega arith)

  bucket_is : bucket_of (byte_at s (get_or elements (record_width * (k - 1)) 0)) (get_or elements (record_width * (k - 1) + 1) 0) ≡ bucket_in s es k
  bucket_is = rw (recorded_offset elements es recorded (k - 1) (omega arith), recorded_size elements es recorded (k - 1) (omega arith))

  bucket_in_lem : bucket_in s es k < BUCKETS
  bucket_in_lem = omega (arith, bucket_is, bucket_range (byte_at s (get_or elements (record_width * (k - 1)) 0)) (get_or elements (record_width * (k - 1) + 1) 0) size_in.0 size_in.1)

  pub filled_more : (index : List ℕ) → Filled s es index k → {after : List ℕ}
      → after ≡ put_in index (bucket_of (byte_at s (get_or elements (record_width * (k - 1)) 0)) (get_or elements (record_width * (k - 1) + 1) 0)) k → Filled s es after (k - 1)
  filled_more index done e = rw (e, bucket_is) (filled_put s es index k bucket_in_lem from to (type_file_count c.name_length s es accepted.elements).1 done)

pub filled_all : {c : Settings} (s : List ℕ) (es : List Element) (elements index : List ℕ) (k : ℕ) → Accepts c s es → Recorded elements es → k ≡ 0 → Filled s es index k → Indexed s es elements index
filled_all {c} s es elements index k accepted recorded e done =
    let z : length es - 0 ≡ length es = omega arith in
    record {
      settings = c;
      accepted = accepted;
      few = (type_file_count c.name_length s es accepted.elements).1;
      recorded = recorded;
      smallest = λ b h. rw (e, z) at (done.smallest b h);
      larger = λ b j l h x. done.larger b j (omega arith) h x;
      none = done.spare 0 (omega arith) (omega arith);
      behind = done.behind;
    }
