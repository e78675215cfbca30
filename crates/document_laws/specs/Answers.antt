-- The rules decide one answer of the reader to every two inputs, and what the buffer holds after.
-- That a type has one first ambiguous model is a fact of the type's half, taken here as given.
use Rattle.std.specs.Prelude.{ℕ, ◌*◌, ◌<◌, ◌≤◌, ◌≡◌, true, false, List, length}
use Rattle.std.proofs.Common.{sym, ◌∙◌, ap, subst, true≢false, arith}
use Rattle.rules.specs.Settings.{Settings, is_offered}
use Rattle.rules.specs.Bytes.{allowed, span, type_limit, document_limit}
use Rattle.rules.specs.Lent.{Lent, standing, room, filled_with, zeroed}
use Rattle.rules.specs.Reading.{Reading, refused, got}
use Rattle.rules.specs.TypeFile.{Element, type_file}
use Rattle.rules.specs.Judge.{Answer, refusal, acceptance, AllUnambiguous, FirstAmbiguous, first_repeated, Legible, Accepts}
use Rattle.rules.specs.Events.{Event, event_width}
use Rattle.rules.specs.Reader.{event_numbers, document_refusal, BothLegible, Reads, not_offered, type_too_long, document_too_long, type_not_allowed, document_not_allowed, malformed, repeated, ambiguous, unsettled, no_room, ReadAs, refuses, accepts}
use Rattle.rules_laws.specs.Holds.{got_one}
use Rattle.document_laws.specs.OneReading.{same_elements, reads_one}

-- What the reader promises of legible inputs.
data Read (l : Lent) (c : Settings) (s d before : List ℕ) (a : Answer) (after : List ℕ) : Type 0 where
  bad : (n k : ℕ) → type_file c.name_length s ≡ refused n k → a ≡ refusal n k 0 0 → after ≡ zeroed before → Read l c s d before a after
  again : (es : List Element) → type_file c.name_length s ≡ got es → 1 ≤ first_repeated es → a ≡ refusal 25 (first_repeated es) 0 0 → after ≡ zeroed before → Read l c s d before a after
  clash : (es : List Element) → type_file c.name_length s ≡ got es → first_repeated es ≡ 0 → (k p q : ℕ) → FirstAmbiguous s k p q es → a ≡ refusal 9 k p q → after ≡ zeroed before → Read l c s d before a after
  stops : (es : List Element) (n k : ℕ) → Reads c s d es (refused n k) → a ≡ document_refusal n k → after ≡ zeroed before → Read l c s d before a after
  tight : (es : List Element) (ev : List Event) → Reads c s d es (got ev) → room l before < event_width * length ev → a ≡ document_refusal 19 0 → after ≡ zeroed before → Read l c s d before a after
  enough : (es : List Element) (ev : List Event) → Reads c s d es (got ev) → event_width * length ev ≤ room l before → a ≡ acceptance (length ev) → after ≡ filled_with (standing l (event_numbers ev)) before → Read l c s d before a after

-- Two answers that are a third are one.
pub both : {a b c : Answer} {x y z : List ℕ} → (a ≡ c) × (x ≡ z) → (b ≡ c) × (y ≡ z) → (a ≡ b) × (x ≡ y)
both (e, f) (g, h) = (e ∙ sym g, f ∙ sym h)

-- What a reading got, or a refusal.

abbrev IsGot : {A : Type 0} → Reading A → Type 0
IsGot (refused n k) = ⊥
IsGot (got a) = Unit {0}

not_got : {A : Type 0} {n k : ℕ} {a : A} → refused n k ≡ got a → ⊥
not_got e = subst IsGot (sym e) tt

refused_in : {A : Type 0} → (ℕ → ℕ → Answer) → Reading A → Answer
refused_in f (refused n k) = f n k
refused_in f (got a) = f 0 0

same_refusal : {A : Type 0} (f : ℕ → ℕ → Answer) (n k m j : ℕ) → ◌≡◌ {A = Reading A} (refused n k) (refused m j) → f n k ≡ f m j
unfolding refused_in
same_refusal f n k m j e = ap (refused_in f) e

abbrev OneFirst : List ℕ → Type 0
OneFirst s = (k p q j a b : ℕ) (es : List Element) → FirstAmbiguous s k p q es → FirstAmbiguous s j a b es → (k ≡ j) × (p ≡ a) × (q ≡ b)

abbrev NoFirst : List ℕ → Type 0
NoFirst s = (k p q : ℕ) (es : List Element) → FirstAmbiguous s k p q es → AllUnambiguous s es → ⊥

module _ (lent : Lent) (c : Settings) (s d before : List ℕ) (one_first : OneFirst s) (no_first : NoFirst s) where
  abbrev Is : Answer → List ℕ → Type 0
  Is a after = ReadAs lent c s d before a after

  abbrev IsRead : Answer → List ℕ → Type 0
  IsRead a after = Read lent c s d before a after

  -- At each stage of the order there is one way to go on.

  when_not_offered : (a : Answer) (after : List ℕ) → is_offered c ≡ false → Is a after → (a ≡ refusal 24 0 0 0) × (after ≡ zeroed before)
  when_not_offered a after h (refuses (not_offered o e) z) = (e, z)
  when_not_offered a after h (refuses (type_too_long o l e) z) = absurd (true≢false (sym o ∙ h))
  when_not_offered a after h (refuses (document_too_long o l m e) z) = absurd (true≢false (sym o ∙ h))
  when_not_offered a after h (refuses (type_not_allowed o l m x e) z) = absurd (true≢false (sym o ∙ h))
  when_not_offered a after h (refuses (document_not_allowed l m x e) z) = absurd (true≢false (sym l.offered ∙ h))
  when_not_offered a after h (refuses (malformed l n k r e) z) = absurd (true≢false (sym l.type.offered ∙ h))
  when_not_offered a after h (refuses (repeated l es r i e) z) = absurd (true≢false (sym l.type.offered ∙ h))
  when_not_offered a after h (refuses (ambiguous l es r v k p q f e) z) = absurd (true≢false (sym l.type.offered ∙ h))
  when_not_offered a after h (refuses (unsettled es n k r e) z) = absurd (true≢false (sym r.legible.type.offered ∙ h))
  when_not_offered a after h (refuses (no_room es ev r f e) z) = absurd (true≢false (sym r.legible.type.offered ∙ h))
  when_not_offered a after h (accepts es ev r f e z) = absurd (true≢false (sym r.legible.type.offered ∙ h))

  when_type_long : (a : Answer) (after : List ℕ) → is_offered c ≡ true → type_limit < length s → Is a after → (a ≡ refusal 1 0 0 0) × (after ≡ zeroed before)
  when_type_long a after u h (refuses (not_offered o e) z) = absurd (true≢false (sym u ∙ o))
  when_type_long a after u h (refuses (type_too_long o l e) z) = (e, z)
  when_type_long a after u h (refuses (document_too_long o l m e) z) = absurd (omega (arith, h, l, m))
  when_type_long a after u h (refuses (type_not_allowed o l m x e) z) = absurd (omega (arith, h, l, m, x))
  when_type_long a after u h (refuses (document_not_allowed l m x e) z) = absurd (omega (arith, h, l.short, l.clean, m, x))
  when_type_long a after u h (refuses (malformed l n k r e) z) = absurd (omega (arith, h, l.type.short, l.type.clean, l.short, l.clean))
  when_type_long a after u h (refuses (repeated l es r i e) z) = absurd (omega (arith, h, l.type.short, l.type.clean, l.short, l.clean))
  when_type_long a after u h (refuses (ambiguous l es r v k p q f e) z) = absurd (omega (arith, h, l.type.short, l.type.clean, l.short, l.clean))
  when_type_long a after u h (refuses (unsettled es n k r e) z) = absurd (omega (arith, h, r.legible.type.short, r.legible.type.clean, r.legible.short, r.legible.clean))
  when_type_long a after u h (refuses (no_room es ev r f e) z) = absurd (omega (arith, h, r.legible.type.short, r.legible.type.clean, r.legible.short, r.legible.clean))
  when_type_long a after u h (accepts es ev r f e z) = absurd (omega (arith, h, r.legible.type.short, r.legible.type.clean, r.legible.short, r.legible.clean))

  when_document_long : (a : Answer) (after : List ℕ) → is_offered c ≡ true → length s ≤ type_limit → document_limit < length d → Is a after → (a ≡ document_refusal 1 0) × (after ≡ zeroed before)
  when_document_long a after u h g (refuses (not_offered o e) z) = absurd (true≢false (sym u ∙ o))
  when_document_long a after u h g (refuses (type_too_long o l e) z) = absurd (omega (arith, h, g, l))
  when_document_long a after u h g (refuses (document_too_long o l m e) z) = (e, z)
  when_document_long a after u h g (refuses (type_not_allowed o l m x e) z) = absurd (omega (arith, h, g, l, m, x))
  when_document_long a after u h g (refuses (document_not_allowed l m x e) z) = absurd (omega (arith, h, g, l.short, l.clean, m, x))
  when_document_long a after u h g (refuses (malformed l n k r e) z) = absurd (omega (arith, h, g, l.type.short, l.type.clean, l.short, l.clean))
  when_document_long a after u h g (refuses (repeated l es r i e) z) = absurd (omega (arith, h, g, l.type.short, l.type.clean, l.short, l.clean))
  when_document_long a after u h g (refuses (ambiguous l es r v k p q f e) z) = absurd (omega (arith, h, g, l.type.short, l.type.clean, l.short, l.clean))
  when_document_long a after u h g (refuses (unsettled es n k r e) z) = absurd (omega (arith, h, g, r.legible.type.short, r.legible.type.clean, r.legible.short, r.legible.clean))
  when_document_long a after u h g (refuses (no_room es ev r f e) z) = absurd (omega (arith, h, g, r.legible.type.short, r.legible.type.clean, r.legible.short, r.legible.clean))
  when_document_long a after u h g (accepts es ev r f e z) = absurd (omega (arith, h, g, r.legible.type.short, r.legible.type.clean, r.legible.short, r.legible.clean))

  when_type_dirty : (a : Answer) (after : List ℕ) → is_offered c ≡ true → length s ≤ type_limit → length d ≤ document_limit → span allowed s < length s → Is a after → (a ≡ refusal 2 (span allowed s) 0 0) × (after ≡ zeroed before)
  when_type_dirty a after u h g i (refuses (not_offered o e) z) = absurd (true≢false (sym u ∙ o))
  when_type_dirty a after u h g i (refuses (type_too_long o l e) z) = absurd (omega (arith, h, g, i, l))
  when_type_dirty a after u h g i (refuses (document_too_long o l m e) z) = absurd (omega (arith, h, g, i, l, m))
  when_type_dirty a after u h g i (refuses (type_not_allowed o l m x e) z) = (e, z)
  when_type_dirty a after u h g i (refuses (document_not_allowed l m x e) z) = absurd (omega (arith, h, g, i, l.short, l.clean, m, x))
  when_type_dirty a after u h g i (refuses (malformed l n k r e) z) = absurd (omega (arith, h, g, i, l.type.short, l.type.clean, l.short, l.clean))
  when_type_dirty a after u h g i (refuses (repeated l es r v e) z) = absurd (omega (arith, h, g, i, l.type.short, l.type.clean, l.short, l.clean))
  when_type_dirty a after u h g i (refuses (ambiguous l es r v k p q f e) z) = absurd (omega (arith, h, g, i, l.type.short, l.type.clean, l.short, l.clean))
  when_type_dirty a after u h g i (refuses (unsettled es n k r e) z) = absurd (omega (arith, h, g, i, r.legible.type.short, r.legible.type.clean, r.legible.short, r.legible.clean))
  when_type_dirty a after u h g i (refuses (no_room es ev r f e) z) = absurd (omega (arith, h, g, i, r.legible.type.short, r.legible.type.clean, r.legible.short, r.legible.clean))
  when_type_dirty a after u h g i (accepts es ev r f e z) = absurd (omega (arith, h, g, i, r.legible.type.short, r.legible.type.clean, r.legible.short, r.legible.clean))

  when_document_dirty : (a : Answer) (after : List ℕ) → Legible c s → length d ≤ document_limit → span allowed d < length d → Is a after → (a ≡ document_refusal 2 (span allowed d)) × (after ≡ zeroed before)
  when_document_dirty a after h g i (refuses (not_offered o e) z) = absurd (true≢false (sym h.offered ∙ o))
  when_document_dirty a after h g i (refuses (type_too_long o l e) z) = absurd (omega (arith, h.short, h.clean, g, i, l))
  when_document_dirty a after h g i (refuses (document_too_long o l m e) z) = absurd (omega (arith, h.short, h.clean, g, i, l, m))
  when_document_dirty a after h g i (refuses (type_not_allowed o l m x e) z) = absurd (omega (arith, h.short, h.clean, g, i, l, m, x))
  when_document_dirty a after h g i (refuses (document_not_allowed l m x e) z) = (e, z)
  when_document_dirty a after h g i (refuses (malformed l n k r e) z) = absurd (omega (arith, h.short, h.clean, g, i, l.type.short, l.type.clean, l.short, l.clean))
  when_document_dirty a after h g i (refuses (repeated l es r v e) z) = absurd (omega (arith, h.short, h.clean, g, i, l.type.short, l.type.clean, l.short, l.clean))
  when_document_dirty a after h g i (refuses (ambiguous l es r v k p q f e) z) = absurd (omega (arith, h.short, h.clean, g, i, l.type.short, l.type.clean, l.short, l.clean))
  when_document_dirty a after h g i (refuses (unsettled es n k r e) z) = absurd (omega (arith, h.short, h.clean, g, i, r.legible.type.short, r.legible.type.clean, r.legible.short, r.legible.clean))
  when_document_dirty a after h g i (refuses (no_room es ev r f e) z) = absurd (omega (arith, h.short, h.clean, g, i, r.legible.type.short, r.legible.type.clean, r.legible.short, r.legible.clean))
  when_document_dirty a after h g i (accepts es ev r f e z) = absurd (omega (arith, h.short, h.clean, g, i, r.legible.type.short, r.legible.type.clean, r.legible.short, r.legible.clean))

  when_legible : (a : Answer) (after : List ℕ) → BothLegible c s d → Is a after → IsRead a after
  when_legible a after h (refuses (not_offered o e) z) = absurd (true≢false (sym h.type.offered ∙ o))
  when_legible a after h (refuses (type_too_long o l e) z) = absurd (omega (arith, h.type.short, h.type.clean, h.short, h.clean, l))
  when_legible a after h (refuses (document_too_long o l m e) z) = absurd (omega (arith, h.type.short, h.type.clean, h.short, h.clean, l, m))
  when_legible a after h (refuses (type_not_allowed o l m x e) z) = absurd (omega (arith, h.type.short, h.type.clean, h.short, h.clean, l, m, x))
  when_legible a after h (refuses (document_not_allowed l m x e) z) = absurd (omega (arith, h.type.short, h.type.clean, h.short, h.clean, l.short, l.clean, m, x))
  when_legible a after h (refuses (malformed l n k r e) z) = bad n k r e z
  when_legible a after h (refuses (repeated l es r v e) z) = again es r v e z
  when_legible a after h (refuses (ambiguous l es r v k p q f e) z) = clash es r v k p q f e z
  when_legible a after h (refuses (unsettled es n k r e) z) = stops es n k r e z
  when_legible a after h (refuses (no_room es ev r f e) z) = tight es ev r f e z
  when_legible a after h (accepts es ev r f e z) = enough es ev r f e z

  accepted_clash : (es fs : List Element) → type_file c.name_length s ≡ got es → (k p q : ℕ) → FirstAmbiguous s k p q es → Accepts c s fs → ⊥
  accepted_clash es fs e k p q f a = no_first k p q fs (subst (FirstAmbiguous s k p q) (same_elements c s es fs e a.elements) f) a.unambiguous

  accepted_again : (es fs : List Element) → type_file c.name_length s ≡ got es → 1 ≤ first_repeated es → Accepts c s fs → ⊥
  accepted_again es fs e l a = omega (arith, l, ap first_repeated (same_elements c s es fs e a.elements), a.unrepeated)

  accepted_bad : (n k : ℕ) (fs : List Element) → type_file c.name_length s ≡ refused n k → Accepts c s fs → ⊥
  accepted_bad n k fs e a = not_got (sym e ∙ a.elements)

  same_got : (es fs : List Element) (ev fv : List Event) → Reads c s d es (got ev) → Reads c s d fs (got fv) → ev ≡ fv
  same_got es fs ev fv x y = got_one (reads_one s d es fs (got ev) (got fv) x y).1

  not_both : (es fs : List Element) (n k : ℕ) (ev : List Event) → Reads c s d es (refused n k) → Reads c s d fs (got ev) → ⊥
  not_both es fs n k ev x y = not_got (reads_one s d es fs (refused n k) (got ev) x y).1

  not_room : (es fs : List Element) (ev fv : List Event) → Reads c s d es (got ev) → Reads c s d fs (got fv) → room lent before < event_width * length ev → event_width * length fv ≤ room lent before → ⊥
  not_room es fs ev fv x y l m = omega (arith, ap length (same_got es fs ev fv x y))

  read_one : (a b : Answer) (after other : List ℕ) → IsRead a after → IsRead b other → (a ≡ b) × (after ≡ other)
  read_one a b after other (bad n k r e z) (bad m j q f y) = (e ∙ same_refusal (λ n k. refusal n k 0 0) n k m j (sym r ∙ q) ∙ sym f, z ∙ sym y)
  read_one a b after other (bad n k r e z) (again es q v f y) = absurd (not_got (sym r ∙ q))
  read_one a b after other (bad n k r e z) (clash es q v j p i w f y) = absurd (not_got (sym r ∙ q))
  read_one a b after other (bad n k r e z) (stops es m j w f y) = absurd (accepted_bad n k es r w.accepted)
  read_one a b after other (bad n k r e z) (tight es ev w l f y) = absurd (accepted_bad n k es r w.accepted)
  read_one a b after other (bad n k r e z) (enough es ev w l f y) = absurd (accepted_bad n k es r w.accepted)
  read_one a b after other (again es r u e z) (bad m j i f y) = absurd (not_got (sym i ∙ r))
  read_one a b after other (again es r u e z) (again fs i v f y) = (e ∙ ap (λ (w : List Element). refusal 25 (first_repeated w) 0 0) (same_elements c s es fs r i) ∙ sym f, z ∙ sym y)
  read_one a b after other (again es r u e z) (clash fs i v j l m w f y) = absurd (omega (arith, u, v, ap first_repeated (same_elements c s es fs r i)))
  read_one a b after other (again es r u e z) (stops fs m j w f y) = absurd (accepted_again es fs r u w.accepted)
  read_one a b after other (again es r u e z) (tight fs ev w l f y) = absurd (accepted_again es fs r u w.accepted)
  read_one a b after other (again es r u e z) (enough fs ev w l f y) = absurd (accepted_again es fs r u w.accepted)
  read_one a b after other (clash es r u k p q x e z) (bad m j i f y) = absurd (not_got (sym i ∙ r))
  read_one a b after other (clash es r u k p q x e z) (again fs i v f y) = absurd (omega (arith, u, v, ap first_repeated (same_elements c s es fs r i)))
  read_one a b after other (clash es r u k p q x e z) (clash fs i v j l m w f y) =
      let (o, g, h) = one_first k p q j l m es x (subst (FirstAmbiguous s j l m) (same_elements c s fs es i r) w) in
      (cc, z ∙ sym y)
  read_one a b after other (clash es r u k p q x e z) (stops fs m j w f y) = absurd (accepted_clash es fs r k p q x w.accepted)
  read_one a b after other (clash es r u k p q x e z) (tight fs ev w l f y) = absurd (accepted_clash es fs r k p q x w.accepted)
  read_one a b after other (clash es r u k p q x e z) (enough fs ev w l f y) = absurd (accepted_clash es fs r k p q x w.accepted)
  read_one a b after other (stops es n k x e z) (bad m j r f y) = absurd (accepted_bad m j es r x.accepted)
  read_one a b after other (stops es n k x e z) (again fs r v f y) = absurd (accepted_again fs es r v x.accepted)
  read_one a b after other (stops es n k x e z) (clash fs r v j p q w f y) = absurd (accepted_clash fs es r j p q w x.accepted)
  read_one a b after other (stops es n k x e z) (stops fs m j w f y) = (e ∙ same_refusal document_refusal n k m j (reads_one s d es fs _ _ x w).1 ∙ sym f, z ∙ sym y)
  read_one a b after other (stops es n k x e z) (tight fs ev w l f y) = absurd (not_both es fs n k ev x w)
  read_one a b after other (stops es n k x e z) (enough fs ev w l f y) = absurd (not_both es fs n k ev x w)
  read_one a b after other (tight es ev x l e z) (bad m j r f y) = absurd (accepted_bad m j es r x.accepted)
  read_one a b after other (tight es ev x l e z) (again fs r v f y) = absurd (accepted_again fs es r v x.accepted)
  read_one a b after other (tight es ev x l e z) (clash fs r v j p q w f y) = absurd (accepted_clash fs es r j p q w x.accepted)
  read_one a b after other (tight es ev x l e z) (stops fs m j w f y) = absurd (not_both fs es m j ev w x)
  read_one a b after other (tight es ev x l e z) (tight fs fv w m f y) = (e ∙ sym f, z ∙ sym y)
  read_one a b after other (tight es ev x l e z) (enough fs fv w m f y) = absurd (not_room es fs ev fv x w l m)
  read_one a b after other (enough es ev x l e z) (bad m j r f y) = absurd (accepted_bad m j es r x.accepted)
  read_one a b after other (enough es ev x l e z) (again fs r v f y) = absurd (accepted_again fs es r v x.accepted)
  read_one a b after other (enough es ev x l e z) (clash fs r v j p q w f y) = absurd (accepted_clash fs es r j p q w x.accepted)
  read_one a b after other (enough es ev x l e z) (stops fs m j w f y) = absurd (not_both fs es m j ev w x)
  read_one a b after other (enough es ev x l e z) (tight fs fv w m f y) = absurd (not_room fs es fv ev w x m l)
  read_one a b after other (enough es ev x l e z) (enough fs fv w m f y) =
      let v = same_got es fs ev fv x w in
      (e ∙ ap (λ w. acceptance (length w)) v ∙ sym f, z ∙ ap (λ w. filled_with (standing lent (event_numbers w)) before) v ∙ sym y)

  -- Two answers to the same two inputs are the same.
  pub read_as_one : (a b : Answer) (after other : List ℕ) → Is a after → Is b other → (a ≡ b) × (after ≡ other)
  read_as_one a b after other (refuses (not_offered o e) z) y = both (e, z) (when_not_offered b other o y)
  read_as_one a b after other (refuses (type_too_long o l e) z) y = both (e, z) (when_type_long b other o l y)
  read_as_one a b after other (refuses (document_too_long o l m e) z) y = both (e, z) (when_document_long b other o l m y)
  read_as_one a b after other (refuses (type_not_allowed o l m x e) z) y = both (e, z) (when_type_dirty b other o l m x y)
  read_as_one a b after other (refuses (document_not_allowed l m x e) z) y = both (e, z) (when_document_dirty b other l m x y)
  read_as_one a b after other (refuses (malformed l n k r e) z) y = read_one a b after other (bad n k r e z) (when_legible b other l y)
  read_as_one a b after other (refuses (repeated l es r v e) z) y = read_one a b after other (again es r v e z) (when_legible b other l y)
  read_as_one a b after other (refuses (ambiguous l es r v k p q f e) z) y = read_one a b after other (clash es r v k p q f e z) (when_legible b other l y)
  read_as_one a b after other (refuses (unsettled es n k r e) z) y = read_one a b after other (stops es n k r e z) (when_legible b other r.legible y)
  read_as_one a b after other (refuses (no_room es ev r f e) z) y = read_one a b after other (tight es ev r f e z) (when_legible b other r.legible y)
  read_as_one a b after other (accepts es ev r f e z) y = read_one a b after other (enough es ev r f e z) (when_legible b other r.legible y)
