-- The proofs behind the values of attributes: each stands between its quotes, in the document where a tag
-- gave it, in the type file where it is the default; and no start of an element with a required attribute is
-- inferred.
use Rattle.std.proofs.Common.{ℕ, zero, suc, ◌+◌, ◌-◌, ◌≤◌, ◌<◌, ◌≡◌, refl, sym, ◌∙◌, ap, subst, Bool, true, false, not, ◌||◌, ◌⊎◌, inl, inr, ⊎_elim, length, take, drop, eqb, leb, ltb, arith, get_or-drop, eqb-true, eq-eqb, ltb-true, le-leb}
use mathlib.Core.List.{List, [], ◌∷◌, ◌++◌, Memᴰ}
use Rattle.std.proofs.lemmas.Bool.{false≢true, not-true}
use Rattle.rules.specs.Settings.{Settings}
use Rattle.rules.specs.Bytes.{byte_at, letter, name_end, separators_end, LIT, LITA, MDC, RNI, VI}
use Rattle.rules.specs.Reading.{Reading, got}
use Rattle.rules.specs.Attributes.{bytes_in, quote, ends_literal, in_literal, literal_end, DeclaredValue, Default, required, implied, literal, Attribute, is_called, is_required, needs_tag, fits}
use Rattle.rules.specs.TypeFile.{is_word, is_cut, REQUIRED, IMPLIED, gap, tokens_of, attribute_name, declared_value, DefaultEnd, default_word, default_literal, is_group, default_value, Definition, definition, Element, type_file}
use Rattle.rules.specs.Document.{Written, Tag, specification, specifications, start_tag_at}
use Rattle.rules.specs.Elements.{element_at}
use Rattle.rules.specs.Events.{Event}
use Rattle.rules.specs.Given.{given_for, attribute_event, attribute_events, given_by, attributes_before, with_attributes, value_bytes}
use Rattle.rules.specs.Decisions.{Decisions}
use Rattle.rules.specs.Settling.{Open, State, inferable}
use Rattle.rules.specs.Acts.{Passes, Deed, opened, passed, inferred, fitted, inferred_end, closed, Deeds, nothing, then}
use Rattle.rules.specs.Records.{Line, records_settled}
use Rattle.rules.specs.Reader.{Reads}
use Rattle.basic_laws.specs.Truth.{bool_cases, or_cases, or_left, or_right, and_right}
use Rattle.rules_laws.specs.Holds.{Gives, stops, reads, got_so, each, on, either, whichever}
use Rattle.rules_laws.specs.Groups.{unfit_holds}
use Rattle.rules_laws.specs.Definitions.{Defines, list_holds}
use Rattle.rules_laws.specs.Declarations.{ListedIn}
use Rattle.rules_laws.specs.Within.{All, none, more, all_mem, type_file_lists}
use Rattle.rules_laws.specs.In.{all_snoc}
use Rattle.document_laws.specs.Chain.{inferable_may}
use Rattle.acts.specs.Readings.{passes_acts, document_acts}
use Rattle.acts.specs.Deeds.{acts_deeds}
use Rattle.record_due.specs.Among.{Among, cut_run, stands, among}
use Rattle.place_laws.specs.Taken.{data_keeps}
use Rattle.place_laws.specs.Stood.{Stood, added, there, stood, before_each}
use Rattle.demands.specs.Words.{Quoted, NoneRequired}

-- Literals

-- No byte before the end of a literal is its quote.
none_in : (q : ℕ) (r : List ℕ) (j : ℕ) → j < in_literal q r → byte_at r j ≡ q → ⊥
unfolding in_literal
none_in q [] j l e = absurd (omega arith)
none_in q (b ∷ r) zero l e =
    bool_cases (ends_literal q (b ∷ r) 0) (λ x. omega (arith, ends x)) (λ x. absurd (not_ended x))
  where
    ends : ends_literal q (b ∷ r) 0 ≡ true → in_literal q (b ∷ r) ≡ 0
    ends x = rw (x, in_literal)

    not_ended : ends_literal q (b ∷ r) 0 ≡ false → ⊥
    not_ended x = let y : ends_literal q (b ∷ r) 0 ≡ true = or_left _ (eq-eqb b q e) in absurd
        (let z : ◌≡◌ {A = Bool} true false = sym y ∙ x in let w : ◌≡◌ {A = ℕ} 0 1 = cc in omega arith)
none_in q (b ∷ r) (suc j) l e = bool_cases (ends_literal q (b ∷ r) 0) (λ x. omega (arith, ends x))
    (λ x. none_in q r j (omega (arith, goes_on x)) e)
  where
    ends : ends_literal q (b ∷ r) 0 ≡ true → in_literal q (b ∷ r) ≡ 0
    ends x = rw (x, in_literal)

    goes_on : ends_literal q (b ∷ r) 0 ≡ false → in_literal q (b ∷ r) ≡ suc (in_literal q r)
    goes_on x = rw (x, in_literal)

-- A quote at i, and the part behind it up to the closing one, at e.
either_quote : (b : ℕ) → quote b ≡ true → (b ≡ LIT) ⊎ (b ≡ LITA)
either_quote b h =
    or_cases (eqb b LIT) (eqb b LITA) (λ x. inl (eqb-true b LIT x)) (λ x. inr (eqb-true b LITA x)) h

pub literal_quoted : (t : List ℕ) (i : ℕ) → quote (byte_at t i) ≡ true
    → Gives (λ (e : ℕ). Quoted t (i + 1) (e - (i + 1))) (literal_end t i)
unfolding literal_end
literal_quoted t i h =
    let q = byte_at t i in
    let e = i + 1 + in_literal q (drop (i + 1) t) in
    let same : i + 1 + (e - (i + 1)) ≡ e = omega arith in
    let back : i + 1 - 1 ≡ i = omega arith in
    either (ltb e (length t))
    (λ x. either (eqb (byte_at t e) q)
    (λ y.
    reads
    (record {
      quote = q;
      either = either_quote q h;
      behind = omega arith;
      opens = ap (byte_at t) back;
      inside = omega (arith, ltb-true e (length t) x);
      closes = ap (byte_at t) same ∙ eqb-true (byte_at t e) q y;
      none = λ j l m b.
          let k : i + 1 + (j - (i + 1)) ≡ j = omega arith in
          none_in q (drop (i + 1) t) (j - (i + 1)) (omega arith)
          (get_or-drop (i + 1) t (j - (i + 1)) 0 ∙ ap (byte_at t) k ∙ b);
    }))
    (λ y. stops tt))
    (λ x. stops tt)

-- What a tag gives

abbrev WrittenQuoted : List ℕ → Written → Type 0
WrittenQuoted d w = Quoted d (w.quote + 1) w.width

specification_quoted : (long : ℕ) (d : List ℕ) (i : ℕ) → Gives (WrittenQuoted d) (specification long d i)
unfolding specification
specification_quoted long d i =
    let e = name_end d i in
    let j = separators_end d e in
    let k = separators_end d (j + 1) in
    either (ltb long (e - i)) (λ x. stops tt)
    (λ x. either (eqb (byte_at d j) VI)
    (λ y. either (quote (byte_at d k)) (λ z. on (literal_quoted d k z) (λ q p. reads p)) (λ z. stops tt))
    (λ y. stops tt))

specifications_quoted : (long turns : ℕ) (d : List ℕ) (name e at : ℕ) (ws : List Written)
    → All (WrittenQuoted d) ws → Gives (λ (t : Tag). All (WrittenQuoted d) t.written)
    (specifications long turns d name e at ws)
unfolding specifications
specifications_quoted long zero d name e at ws a = stops {n = 4} {k = length d} tt
specifications_quoted long (suc turns) d name e at ws a =
    let i = separators_end d at in
    either (eqb (byte_at d i) MDC) (λ x. reads a)
    (λ x. either (letter (byte_at d i))
    (λ y. on (specification_quoted long d i)
    (λ w p. specifications_quoted long turns d name e (w.quote + 1 + w.width + 1) (ws ++ w ∷ [])
    (all_snoc a p))) (λ y. stops tt))

tag_quoted : (long : ℕ) (d : List ℕ) (at : ℕ)
    → Gives (λ (t : Tag). All (WrittenQuoted d) t.written) (start_tag_at long d at)
unfolding start_tag_at
tag_quoted long d at =
    let e = name_end d at in
    either (ltb long (e - at)) (λ x. stops tt)
    (λ x. specifications_quoted long (suc (length d)) d at e e [] none)

given_quoted : (d : List ℕ) {r : Reading Tag} → Gives (λ (t : Tag). All (WrittenQuoted d) t.written) r
    → All (WrittenQuoted d) (given_by r)
given_quoted d (stops h) = none
given_quoted d (reads a) = a

for_quoted : (s : List ℕ) (a : Attribute) (d : List ℕ) (ws : List Written) → All (WrittenQuoted d) ws
    → All (WrittenQuoted d) (given_for s a d ws)
unfolding given_for
for_quoted s a d [] none = none
for_quoted s a d (w ∷ ws) (more p h) = whichever (All (WrittenQuoted d)) {x = w ∷ []}
    (is_called s a d w.at w.size) (λ x. more p none) (λ x. for_quoted s a d ws h)

-- What a list has as default

abbrev DefaultQuoted : List ℕ → Default → Type 0
DefaultQuoted s required = Unit {0}
DefaultQuoted s implied = Unit {0}
DefaultQuoted s (literal p) = Quoted s p.at p.size

abbrev AttributeQuoted : List ℕ → Attribute → Type 0
AttributeQuoted s a = DefaultQuoted s a.default

module _ (long : ℕ) (s : List ℕ) where
  word_quoted : (i : ℕ) → Gives (λ (f : DefaultEnd). DefaultQuoted s f.default) (default_word s i)
  unfolding default_word
  word_quoted i =
      let e = name_end s (i + 1) in
      either (letter (byte_at s (i + 1)))
      (λ l. either (is_word s (i + 1) e REQUIRED) (λ y. reads tt)
      (λ y. either (is_word s (i + 1) e IMPLIED) (λ z. reads tt)
      (λ z. either (is_cut s (i + 1) e REQUIRED || is_cut s (i + 1) e IMPLIED) (λ u. stops tt)
      (λ u. stops tt))))
      (λ l. stops tt)

  default_quoted : (x : DeclaredValue) (from i : ℕ)
      → Gives (λ (f : DefaultEnd). DefaultQuoted s f.default) (default_value long s x from i)
  unfolding default_value default_literal
  default_quoted x from i =
      let b = byte_at s i in
      either (eqb b RNI || quote b)
      (λ y. either (is_group x || ltb from i)
      (λ z. either (eqb b RNI) (λ u. word_quoted i)
      (λ u. on (literal_quoted s i (rw u at y))
      (λ e p. either (fits long s x (bytes_in s (record { at = i + 1; size = e - (i + 1) })))
      (λ v. reads p) (λ v. stops tt))))
      (λ z. stops tt))
      (λ y. unfit_holds s i (λ n k h. tt))

  -- Whatever comes before the default.
  any : {A : Type 0} (r : Reading A) → Gives (λ (a : A). Unit {0}) r
  any r = each r (λ n k e. tt) (λ a e. tt)

  definition_quoted : (xs : List Attribute) (from i : ℕ)
      → Gives (λ (d : Definition). AttributeQuoted s d.attribute) (definition long s xs from i)
  unfolding definition
  definition_quoted xs from i =
      on (any (attribute_name long s xs from i)) λ e n.
      on (any (gap s e)) λ j p.
      on (any (declared_value long s (tokens_of xs) j)) λ v w.
      on (any (gap s v.at)) λ k q.
      on (default_quoted v.value v.at k) λ f r.
      reads r

  quoted_more : (xs : List Attribute) (a : Attribute) → All (AttributeQuoted s) xs → Defines long s xs a
      → All (AttributeQuoted s) (xs ++ a ∷ [])
  quoted_more xs a h d = all_snoc h (got_so (definition_quoted xs d.from a.at) d.read)

  listed_quoted : (xs : List Attribute) → ListedIn long s xs → All (AttributeQuoted s) xs
  listed_quoted xs (inl e) = rw e none
  listed_quoted xs (inr r) =
      (got_so (list_holds long s (All (AttributeQuoted s)) quoted_more r.from r.inside none) r.read).each

  element_quoted : (es : List Element) → All (λ (e : Element). ListedIn long s e.attributes) es → (k : ℕ)
      → All (AttributeQuoted s) ((element_at es k).attributes)
  unfolding element_at
  element_quoted [] none k = none
  element_quoted (e ∷ es) (more p a) zero = listed_quoted e.attributes p
  element_quoted (e ∷ es) (more p a) (suc k) = element_quoted es a k

-- Events of attributes

module _ (s d : List ℕ) where
  abbrev OfValue : Event → Type 0
  OfValue e = ((e.kind ≡ 7) × Quoted d e.offset e.size) ⊎ ((e.kind ≡ 8) × Quoted s e.offset e.size)

  all_both : {a b : List Event} → All OfValue a → All OfValue b → All OfValue (a ++ b)
  all_both none q = q
  all_both (more p h) q = more p (all_both h q)

  event_quoted : (n : ℕ) (f : Default) (ws : List Written) → DefaultQuoted s f → All (WrittenQuoted d) ws
      → All OfValue (attribute_event n f ws)
  event_quoted n required [] q none = none
  event_quoted n implied [] q none = none
  event_quoted n (literal p) [] q none = more (inr (refl, q)) none
  event_quoted n required (w ∷ ws) q (more p h) = more (inl (refl, p)) none
  event_quoted n implied (w ∷ ws) q (more p h) = more (inl (refl, p)) none
  event_quoted n (literal r) (w ∷ ws) q (more p h) = more (inl (refl, p)) none

  events_quoted : (n : ℕ) (xs : List Attribute) (ws : List Written) → All (AttributeQuoted s) xs
      → All (WrittenQuoted d) ws → All OfValue (attribute_events n s xs d ws)
  unfolding attribute_events
  events_quoted n [] ws none h = none
  events_quoted n (a ∷ xs) ws (more q g) h = all_both
      (event_quoted n a.default (given_for s a d ws) q (for_quoted s a d ws h))
      (events_quoted (n + 1) xs ws g h)

  before_quoted : (long : ℕ) (es : List Element) → type_file long s ≡ got es → (x : Event)
      → All OfValue (attributes_before long s es d x)
  before_quoted long es r x =
      let list = element_quoted long s es (type_file_lists long s es r) (x.number - 1) in
      before_each OfValue s es d long x
      (events_quoted 1 ((element_at es (x.number - 1)).attributes)
      (given_by (start_tag_at long d (x.offset + 1))) list
      (given_quoted d (tag_quoted long d (x.offset + 1))))
      (events_quoted 1 ((element_at es (x.number - 1)).attributes) [] list none)

-- Events that are noted: none is of an attribute, and no start is inferred of an element with a required
-- attribute.

module _ (s : List ℕ) (es : List Element) (D : Decisions) where
  record Noted (e : Event) : Type 0 where
    kind : e.kind ≤ 6
    declared : e.kind ≡ 2 → (1 ≤ e.number) × (e.number ≤ length es)
    free : e.kind ≡ 2 → needs_tag ((element_at es (e.number - 1)).attributes) ≡ false

  other : {e : Event} → e.kind ≤ 6 → (e.kind ≡ 2 → ⊥) → Noted e
  other l n = record { kind = l; declared = λ i. absurd (n i); free = λ i. absurd (n i) }

  tagless : (o : Open) → leb 1 (inferable s es D o) ≡ true
      → needs_tag ((element_at es (inferable s es D o - 1)).attributes) ≡ false
  tagless o h =
      let x = element_at es (inferable s es D o - 1) in
      not-true (needs_tag x.attributes)
      (and_right (eqb x.start 1) (not (needs_tag x.attributes)) ((inferable_may s es D o h).start))

  within : (o : Open) (k : ℕ) → inferable s es D o ≡ k → 1 ≤ k → k ≤ length es
  within o k e l = rw e at (inferable_may s es D o (rw e (le-leb 1 k l))).declared

  deed_noted : {z y : State} → Deed s es D z y → All Noted z.events → All Noted y.events
  deed_noted (opened k at after x f m) a = all_snoc a (other (omega arith) (λ i. omega arith))
  deed_noted (passed k at after x f m l) a =
      all_snoc (all_snoc a (other (omega arith) (λ i. omega arith))) (other (omega arith) (λ i. omega arith))
  deed_noted {z} (inferred k at e l) a =
      all_snoc a
      (record {
        kind = omega arith;
        declared = λ i. (l, within z.current k e l);
        free = λ i. subst
            (λ (n : ℕ). needs_tag ((element_at es (n - 1)).attributes) ≡ false) e
            (tagless z.current (rw e (le-leb 1 k l)));
      })
  deed_noted {z} (fitted at size l f) a =
      all_snoc (subst (All Noted) (sym (data_keeps s es D size z)) a) (other (omega arith) (λ i. omega arith))
  deed_noted (inferred_end u us at e c o) a = all_snoc a (other (omega arith) (λ i. omega arith))
  deed_noted (closed u us at after e c) a = all_snoc a (other (omega arith) (λ i. omega arith))

  deeds_noted : {z : State} → Deeds s es D z → All Noted z.events
  deeds_noted nothing = none
  deeds_noted (then d x) = deed_noted x (deeds_noted d)

-- Where no tag is needed no attribute is required.
none_of : (xs : List Attribute) → needs_tag xs ≡ false → (a : Attribute) → Memᴰ a xs → a.default ≡ required
    → ⊥
unfolding needs_tag
none_of [] h a m q = elim m [ ]
none_of (x ∷ xs) h a (Memᴰ.head i) q =
    let r : is_required x.default ≡ true = sym (ap (λ (v : Attribute). is_required v.default) i)
    ∙ ap is_required q in
    false≢true (sym h ∙ or_left (needs_tag xs) r)
none_of (x ∷ xs) h a (Memᴰ.tail m) q =
    none_of xs (bool_cases (needs_tag xs)
    (λ r. absurd (false≢true (sym h ∙ or_right (is_required x.default) r))) (λ r. r)) a m q

inferred_free : (s : List ℕ) (es : List Element) (D : Decisions) {e : Event} → Noted s es D e → e.kind ≡ 2
    → (1 ≤ e.number) × (e.number ≤ length es) × NoneRequired (element_at es (e.number - 1))
inferred_free s es D {e} n k =
    ((n.declared k).0, (n.declared k).1, none_of (element_at es (e.number - 1)).attributes (n.free k))

-- Each event of a document that is read

member : (before : List Event) (e : Event) (after : List Event) → Memᴰ e (before ++ e ∷ after)
member [] e after = Memᴰ.head refl
member (x ∷ before) e after = Memᴰ.tail (member before e after)

module _ (c : Settings) (s d : List ℕ) (es : List Element) (ev : List Event) (x : Reads c s d es (got ev))
    (before : List Event) (e : Event) (after : List Event) (parts : ev ≡ before ++ e ∷ after) where
  of_either : OfValue s d e ⊎ Noted s es x.decisions e
  of_either =
      let a = document_acts s es x.decisions d c ev x.reading in
      let z = a.over.last in
      go z (deeds_noted s es x.decisions (acts_deeds s es x.decisions Deeds.nothing a.over.acts))
      (stood c.name_length s es d (records_settled c d z.events) before e after
      (ap (λ (noted : List Event). with_attributes c.name_length s es d
      (records_settled c d noted)) a.over.events ∙ sym a.given ∙ parts))
    where
      by_settled : (z : State) {first : List Event} → All (Noted s es x.decisions) z.events
          → Among c d z.events first e → Noted s es x.decisions e
      by_settled z h (cut_run k p) =
          record {
            kind = omega (arith, k);
            declared = λ i. absurd (omega (arith, k, i));
            free = λ i. absurd
                (omega (arith, k, i));
          }
      by_settled z h (stands a b m settled) =
          all_mem h (subst (λ (v : List Event). Memᴰ e v) (sym m) (member a e b))

      go : (z : State) → All (Noted s es x.decisions) z.events
          → Stood c.name_length s es d (records_settled c d z.events) before e → OfValue s d e
          ⊎ Noted s es x.decisions e
      go z h (added y m) = inl (all_mem (before_quoted s d c.name_length es x.accepted.elements y) m)
      go z h (there first last i j) = inr (by_settled z h (among c d z.events first e last i))

  pub written_quoted : e.kind ≡ 7 → Quoted d e.offset e.size
  written_quoted k = ⊎_elim (λ v. ⊎_elim (λ w. w.1) (λ w. absurd (omega (arith, k, w.0))) v)
      (λ n. absurd (omega (arith, k, n.kind))) of_either

  pub default_stands : e.kind ≡ 8 → Quoted s e.offset e.size
  default_stands k = ⊎_elim (λ v. ⊎_elim (λ w. absurd (omega (arith, k, w.0))) (λ w. w.1) v)
      (λ n. absurd (omega (arith, k, n.kind))) of_either

  pub none_required : e.kind ≡ 2
      → (1 ≤ e.number) × (e.number ≤ length es) × NoneRequired (element_at es (e.number - 1))
  none_required k =
      ⊎_elim (λ v. absurd (⊎_elim (λ w. omega (arith, k, w.0)) (λ w. omega (arith, k, w.0)) v))
      (λ n. inferred_free s es x.decisions n k) of_either

-- So it is of each event that is noted up to where reading comes to, be the document refused later or not.
pub none_required_before : (c : Settings) (s d : List ℕ) (es : List Element) (D : Decisions) (at : ℕ)
    (l : Line)
    (z : State) → Passes c s es D d at l z → (e : Event) → Memᴰ e z.events → e.kind ≡ 2
    → (1 ≤ e.number) × (e.number ≤ length es) × NoneRequired (element_at es (e.number - 1))
none_required_before c s d es D at l z p e m =
    inferred_free s es D
    (all_mem (deeds_noted s es D (acts_deeds s es D Deeds.nothing (passes_acts s es D d p))) m)

-- The bytes of a value that stands so are those of its part.
pub quoted_bytes : (s d : List ℕ) (is_written : Bool) (at size : ℕ)
    → Quoted (elim is_written as (λ _. List ℕ) [ true ↦ d | false ↦ s ]) at size
    → value_bytes s d is_written (record { at = at; size = size }) ≡ take size
    (drop at (elim is_written as (λ _. List ℕ) [ true ↦ d | false ↦ s ]))
quoted_bytes s d is_written at size q =
    let t : List ℕ = elim is_written as (λ _. List ℕ) [ true ↦ d | false ↦ s ] in
    let l : leb (at + size) (length t) ≡ true = le-leb (at + size) (length t) (omega (arith, q.inside)) in
    ap {B = List ℕ} (λ b. elim b as (λ _. List ℕ) [ true ↦ take size (drop at t) | false ↦ [] ]) l
