-- Element declarations and the type file, walked once: what is known of an element that was read is `Declares`, and each law of a type file
-- that was read is an invariant of its elements, or goes by `Declares`.
use Prim.Native.Nat.{ℕ, zero, suc, ◌+◌, ◌-◌, ◌≤◌, ◌<◌}
use Rattle.std.specs.Prelude.{◌≡◌, Bool, true, false, ◌&&◌, ◌||◌, ◌⊎◌, leb}
use Rattle.std.proofs.Math.Path.{refl, ap, subst}
use Rattle.std.proofs.Common.{sym, ◌∙◌, ap₂}
use Rattle.std.proofs.Math.Logic.{inl, inr}
use mathlib.Core.List.{List, [], ◌∷◌, ◌++◌}
use native.Mathlib.Omega.{arith}
use Rattle.std.proofs.Math.ListN.{length}
use Rattle.std.proofs.Math.Dec.{eqb, ltb}
use borrow.Author.Tests.{eqb-false, ltb-false, leb-false}
use Rattle.rules.specs.Bytes.{byte_at, letter, name_end, separators_end, element_limit, DSO, EXCLAMATION, GRPO, MDC, MINUS, OPT, PERO, PLUS, STAGO}
use Rattle.rules.specs.Reading.{got}
use Rattle.rules.specs.Attributes.{Attribute, AttList}
use Rattle.rules.specs.TypeFile.{gap, is_word, O, ELEMENT, ATTLIST, ContentEnd, Element, is_declared, element_name, Word, omission, Head, words, head, content, close, Declared, rest, element, declared_from, is_listed, Listed, listed_element, Declarations, attribute_list, keyword, markup, declaration, declarations_within, attributes_of, listed, type_file, declare}
use Rattle.text.specs.Words.{test_in, letter_in, name_end_from, name_end_le, name_end_more, separators_end_from}
use Rattle.rules_laws.specs.Holds.{Holds, stops, reads, got_so, known, so, on, on_same, either, whichever}
use Rattle.rules_laws.specs.In.{All, none, more, all_snoc, NameIn}
use Rattle.rules_laws.specs.Groups.{InType, InFrom, unfit_holds, content_read_lem, whatever_builds}
use Rattle.rules_laws.specs.Gaps.{Onward, gap_within_lem, comment_within}
use Rattle.rules_laws.specs.Definitions.{InFile, in_file, at_file, early, undeclared, twice, ListRead, list_holds}

-- How the declaration of e was read behind the elements es: its keyword ends at `from`, it ends at `after`, and its content was read at
-- `begun`, where the parameter before had ended at `before`.
pub record Declares (long : ℕ) (s : List ℕ) (es : List Element) (e : Element) : Type 0 where
  pub from : ℕ
  pub after : ℕ
  pub read : element long s from es ≡ got (record { elements = es ++ e ∷ []; at = after })
  pub begins : gap s from ≡ got e.at
  pub name : NameIn s e.at e.size
  pub short : e.size ≤ long
  pub named : letter (byte_at s e.at) ≡ true
  pub fresh : is_declared s es e.at e.size ≡ false
  pub room : length es < element_limit
  pub start : e.start ≤ 1
  pub end : e.end ≤ 1
  pub before : ℕ
  pub begun : ℕ
  pub ends : ℕ
  pub content_read : content long s before begun ≡ got (record { content = e.content; at = ends; repeated = e.repeated })
  pub unlisted : e.attributes ≡ []

-- What is known of a name from i to e, of one of the two words, of both, of a head, and of what follows it.
pub record NameRead (long : ℕ) (s : List ℕ) (es : List Element) (i e : ℕ) : Type 0 where
  pub name : NameIn s i (e - i)
  pub short : e - i ≤ long
  pub named : letter (byte_at s i) ≡ true
  pub fresh : is_declared s es i (e - i) ≡ false
  pub room : length es < element_limit
  pub inside : e ≤ length s

pub record WordRead (s : List ℕ) (i : ℕ) (w : Word) : Type 0 where
  pub value : w.value ≤ 1
  pub from : i ≤ w.at
  pub inside : w.at ≤ length s

pub record WordsRead (s : List ℕ) (i e : ℕ) (h : Head) : Type 0 where
  pub name : h.name ≡ i
  pub size : h.size ≡ e - i
  pub start : h.start ≤ 1
  pub end : h.end ≤ 1
  pub from : e ≤ h.at
  pub inside : h.at ≤ length s

record HeadRead (long : ℕ) (s : List ℕ) (es : List Element) (at : ℕ) (h : Head) : Type 0 where
  begins : gap s at ≡ got h.name
  name : NameRead long s es h.name (h.name + h.size)
  start : h.start ≤ 1
  end : h.end ≤ 1
  from : at ≤ h.at
  inside : h.at ≤ length s

record RestRead (long : ℕ) (s : List ℕ) (es : List Element) (h : Head) (d : Declared) : Type 0 where
  before : ℕ
  begun : ℕ
  inner : ContentEnd
  content_read : content long s before begun ≡ got inner
  elements : d.elements ≡ es ++ declare h inner ∷ []
  from : h.at < d.at
  inside : d.at ≤ length s

-- A declaration adds no element, or one.
data Grows (long : ℕ) (s : List ℕ) (es : List Element) : List Element → Type 0 where
  same : Grows long s es es
  one : (e : Element) → Declares long s es e → Grows long s es (es ++ e ∷ [])

-- An attribute list that was read; and the attributes of an element, if it has some.
abbrev pub ListIn : ℕ → List ℕ → AttList → Type 0
ListIn long s l = ListRead long s l.attributes

abbrev pub ListedIn : ℕ → List ℕ → List Attribute → Type 0
ListedIn long s xs = (xs ≡ []) ⊎ ListRead long s xs

-- A declaration adds no list, or one.
data Adds (long : ℕ) (s : List ℕ) (ls : List AttList) : List AttList → Type 0 where
  nothing : Adds long s ls ls
  list : (l : AttList) → ListIn long s l → Adds long s ls (ls ++ l ∷ [])

-- An element without its attributes, as it is while the type file is read: they come with a list further on.
abbrev pub bare : Element → Element
bare e = record { at = e.at; size = e.size; start = e.start; end = e.end; content = e.content; repeated = e.repeated; attributes = [] }

unfoldable pub bares : List Element → List Element
bares [] = []
bares (e ∷ es) = bare e ∷ bares es

abbrev Bare : Element → Type 0
Bare e = e.attributes ≡ []

record DeclaredRead (long : ℕ) (s : List ℕ) (i : ℕ) (es : List Element) (d : Declared) : Type 0 where
  from : i < d.at
  inside : d.at ≤ length s
  grows : Grows long s es d.elements

-- What was read up to behind i, where these elements and lists were read before.
record DeclarationsRead (long : ℕ) (s : List ℕ) (i : ℕ) (es : List Element) (ls : List AttList) (d : Declarations) : Type 0 where
  from : i < d.at
  inside : d.at ≤ length s
  grows : Grows long s es d.elements
  lists : Adds long s ls d.lists

bare_same : {e : Element} → Bare e → bare e ≡ e
bare_same {e} h = ap (λ (xs : List Attribute). record { at = e.at; size = e.size; start = e.start; end = e.end; content = e.content; repeated = e.repeated; attributes = xs }) (sym h)

bare_grown : {long : ℕ} {s : List ℕ} {es ds : List Element} → Grows long s es ds → All Bare es → All Bare ds
bare_grown same a = a
bare_grown (one e d) a = all_snoc a d.unlisted

bares_listed : (k : ℕ) (ls : List AttList) {es : List Element} → All Bare es → bares (listed k ls es) ≡ es
unfolding bares listed
bares_listed k ls none = refl
bares_listed k ls (more {x = e} {xs = es} h a) = ap₂ ◌∷◌ (bare_same h) (bares_listed (k + 1) ls a)

pub bares_length : (es : List Element) → length (bares es) ≡ length es
unfolding bares
bares_length [] = refl
bares_length (e ∷ es) = ap suc (bares_length es)

pub listed_length : (k : ℕ) (ls : List AttList) (es : List Element) → length (listed k ls es) ≡ length es
unfolding listed
listed_length k ls [] = refl
listed_length k ls (e ∷ es) = ap suc (listed_length (k + 1) ls es)

module _ (s : List ℕ) where
  -- A declaration ends.

  pub close_read : (i : ℕ) → Holds (InFrom s i) (Onward s (i + 1)) (close s i)
  unfolding close
  close_read i =
      let b = byte_at s i in
      either (eqb b MDC) (λ x. reads (omega arith, omega (arith, test_in (λ v. eqb v MDC) refl s i x)))
      (λ x. either ((eqb b MINUS || eqb b PLUS) && eqb (byte_at s (i + 1)) GRPO) (λ y. stops (λ h. omega arith)) (λ y. unfit_holds s i (λ n k r. r)))

-- Element declarations are read.

module _ (long : ℕ) (s : List ℕ) where
  pub element_name_read : (i : ℕ) (es : List Element) → i ≤ length s → Holds (InType s) (NameRead long s es i) (element_name long s i es)
  unfolding element_name
  element_name_read i es h =
      let e = name_end s i in
      let l = name_end_le s i h in
      let f = name_end_from s i in
      either (letter (byte_at s i))
      (λ x. either (ltb long (e - i)) (λ y. stops (omega arith))
      (λ y. either (is_declared s es i (e - i)) (λ z. stops (omega arith))
      (λ z. either (leb element_limit (length es)) (λ u. stops (omega arith))
      (λ u.
      reads (record { name = record { some = omega (arith, name_end_more s i x); ends = omega arith }; short = ltb-false _ _ y; named = x; fresh = z; room = leb-false _ _ u; inside = l })))))
      (λ x. either (eqb (byte_at s i) GRPO) (λ y. stops (omega arith)) (λ y. unfit_holds s i (λ n k r. r h)))

  pub omission_read : (from i : ℕ) → Holds (InFrom s i) (WordRead s i) (omission long s from i)
  unfolding omission
  omission_read from i =
      let e = name_end s i in
      let b = byte_at s i in
      either (eqb b MINUS && ltb from i)
      (λ x. reads (record { value = omega arith; from = omega arith; inside = omega (arith, test_in (λ v. eqb v MINUS && ltb from i) refl s i x) }))
      (λ x. either (letter b)
      (λ y.
      let l = letter_in s i y in
      either (ltb long (e - i)) (λ z. stops (λ h. omega arith))
      (λ z. either (ltb from i && is_word s i e O) (λ u. reads (record { value = omega arith; from = name_end_from s i; inside = name_end_le s i (omega arith) })) (λ u. stops (λ h. omega arith))))
      (λ y. stops (λ h. omega arith)))

  -- One of the words, at a position in the input.
  omission_at : (from i : ℕ) → i ≤ length s → Holds (InType s) (WordRead s i) (omission long s from i)
  omission_at from i h = so (omission_read from i) (λ n k x. x h) (λ w x. x)

  pub words_read : (i e : ℕ) → e ≤ length s → Holds (InType s) (WordsRead s i e) (words long s i e)
  unfolding words
  words_read i e h =
      on (gap_within_lem s e h) λ j p.
      on (omission_at e j p.1) λ a q.
      on (gap_within_lem s a.at q.inside) λ k r.
      on (omission_at a.at k r.1) λ b t.
      reads (record { name = refl; size = refl; start = q.value; end = t.value; from = omega (arith, p, q.from, r, t.from); inside = t.inside })

  head_read : (at : ℕ) (es : List Element) → at ≤ length s → Holds (InType s) (HeadRead long s es at) (head long s at es)
  unfolding head
  head_read at es h =
      on (known (gap_within_lem s at h)) λ i p.
      on (element_name_read i es p.1.1) λ e n.
      so (words_read i e n.inside) (λ m k x. x) λ x w.
      let size : x.name + x.size ≡ e = omega (arith, w.name, w.size, n.name.some) in
      record {
        begins = p.0 ∙ ap got (sym w.name);
        name = rw (size, w.name) n;
        start = w.start;
        end = w.end;
        from = omega (arith, p.1, n.name.some, w.from);
        inside = w.inside;
      }

  rest_read : (es : List Element) (h : Head) → h.at ≤ length s → Holds (InType s) (RestRead long s es h) (rest long s es h)
  unfolding rest
  rest_read es h l =
      on (gap_within_lem s h.at l) λ i p.
      on (so (known (content_read_lem long s whatever_builds h.at i)) (λ n k x. x p.1) (λ y x. x)) λ y q.
      on (gap_within_lem s y.at q.1.inside) λ j r.
      on (so (close_read s j) (λ n k x. x r.1) (λ k x. x)) λ k t.
      reads (record { before = h.at; begun = i; inner = y; content_read = q.0; elements = refl; from = omega (arith, p, q.1.from, r, t); inside = t.1 })

  element_parts : (at : ℕ) (es : List Element) → at ≤ length s → Holds (InType s) (λ (d : Declared). (h : Head) × HeadRead long s es at h × RestRead long s es h d) (element long s at es)
  unfolding element
  element_parts at es l = on (head_read at es l) λ h w. so (rest_read es h w.inside) (λ n k x. x) (λ d a. (h, w, a))

  declares : (at : ℕ) (es : List Element) (h : Head) (d : Declared) → element long s at es ≡ got d → HeadRead long s es at h → RestRead long s es h d → Grows long s es d.elements
  declares at es h d r w a =
      let e = declare h a.inner in
      let whole : d ≡ record { elements = es ++ e ∷ []; at = d.at } = ap (λ (l : List Element). record { elements = l; at = d.at }) a.elements in
      let z : h.name + h.size - h.name ≡ h.size = omega arith in
      subst (Grows long s es) (sym a.elements)
      (one e
      (record {
        from = at;
        after = d.at;
        read = r ∙ ap got whole;
        begins = w.begins;
        name = rw z at w.name.name;
        short = rw z at w.name.short;
        named = w.name.named;
        fresh = rw z at w.name.fresh;
        room = w.name.room;
        start = w.start;
        end = w.end;
        before = a.before;
        begun = a.begun;
        ends = a.inner.at;
        content_read = a.content_read;
        unlisted = refl;
      }))

  element_read : (i at : ℕ) (es : List Element) → i < at → at ≤ length s → Holds (InType s) (DeclaredRead long s i es) (element long s at es)
  element_read i at es h l =
      so (known (element_parts at es l)) (λ n k x. x) λ d x.
      let (r, p) = x in
      let (y, w, a) = p in
      record { from = omega (arith, w.from, a.from); inside = a.inside; grows = declares at es y d r w a }

  -- Attribute lists are read.

  pub listed_read : (i : ℕ) (es : List Element) (ls : List AttList) → i ≤ length s → Holds (InFile s) (λ (l : Listed). (i < l.at) × (l.at ≤ length s)) (listed_element long s es ls i)
  unfolding listed_element
  listed_read i es ls h =
      let e = name_end s i in
      let k = declared_from 1 s es i (e - i) in
      either (letter (byte_at s i))
      (λ x. either (ltb long (e - i)) (λ y. early s (omega arith))
      (λ y. either (leb 1 k)
      (λ z. either (is_listed ls k) (λ u. twice s h) (λ u. reads (name_end_more s i x, name_end_le s i h)))
      (λ z. undeclared s h)))
      (λ x. either (eqb (byte_at s i) GRPO) (λ y. early s (omega arith)) (λ y. unfit_holds s i (λ n k r. in_file s (r h))))

  list_parts : (i at : ℕ) (es : List Element) (ls : List AttList) → i < at → at ≤ length s → Holds (InFile s) (DeclarationsRead long s i es ls) (attribute_list long s at es ls)
  unfolding attribute_list
  list_parts i at es ls h l =
      on (at_file s (gap_within_lem s at l)) λ j p.
      on (listed_read j es ls p.1) λ y q.
      on (known (list_holds long s (λ xs. Unit {0}) (λ xs a x d. tt) y.at q.1 tt)) λ z r.
      reads
      (record {
        from = omega (arith, p, q, r.1.from);
        inside = r.1.inside;
        grows = same;
        lists = list (record { element = y.element; attributes = z.attributes }) (record { from = y.at; after = z.at; inside = q.1; read = r.0 });
      })

  -- The type file is read.

  keyword_read : (i : ℕ) (es : List Element) (ls : List AttList) → i + 2 ≤ length s → Holds (InFile s) (DeclarationsRead long s i es ls) (keyword long s i es ls)
  unfolding keyword
  keyword_read i es ls h =
      let e = name_end s (i + 2) in
      let from : i < e = omega (arith, name_end_from s (i + 2)) in
      either (ltb long (e - (i + 2))) (λ x. early s (omega arith))
      (λ x. either (is_word s (i + 2) e ELEMENT)
      (λ y. on (at_file s (element_read i e es from (name_end_le s (i + 2) h))) (λ d r. reads (record { from = r.from; inside = r.inside; grows = r.grows; lists = nothing })))
      (λ y. either (is_word s (i + 2) e ATTLIST) (λ z. list_parts i e es ls from (name_end_le s (i + 2) h)) (λ z. early s (omega arith))))

  markup_read : (i : ℕ) (es : List Element) (ls : List AttList) → i + 2 ≤ length s → Holds (InFile s) (DeclarationsRead long s i es ls) (markup long s i es ls)
  unfolding markup
  markup_read i es ls h =
      let b = byte_at s (i + 2) in
      either (eqb b MDC) (λ x. reads (record { from = omega arith; inside = omega (arith, test_in (λ v. eqb v MDC) refl s (i + 2) x); grows = same; lists = nothing }))
      (λ x. either (eqb b MINUS)
      (λ y. either (eqb (byte_at s (i + 3)) MINUS) (λ z. on (at_file s (comment_within s (i + 2) h)) (λ j l. reads (record { from = omega (arith, l); inside = l.1; grows = same; lists = nothing })))
      (λ z. early s (omega (arith, test_in (λ v. eqb v MINUS) refl s (i + 2) y))))
      (λ y. either (eqb b DSO) (λ z. early s (omega arith)) (λ z. either (letter b) (λ u. keyword_read i es ls h) (λ u. early s (omega arith)))))

  declaration_read : (i : ℕ) (es : List Element) (ls : List AttList) → i < length s → Holds (InFile s) (DeclarationsRead long s i es ls) (declaration long s i es ls)
  unfolding declaration
  declaration_read i es ls h =
      let b = byte_at s i in
      let second = byte_at s (i + 1) in
      either (eqb b STAGO)
      (λ x. either (eqb second EXCLAMATION) (λ y. markup_read i es ls (omega (arith, test_in (λ v. eqb v EXCLAMATION) refl s (i + 1) y)))
      (λ y. either (eqb second OPT) (λ z. early s (omega arith)) (λ z. early s (omega arith))))
      (λ x. either (eqb b PERO) (λ y. early s (omega arith)) (λ y. early s (omega arith)))

  listed_in : {ls ms : List AttList} → Adds long s ls ms → All (ListIn long s) ls → All (ListIn long s) ms
  listed_in nothing a = a
  listed_in (list l r) a = all_snoc a r

  -- The attributes of an element were read as its list, or it has none.
  attributes_in : {ls : List AttList} → All (ListIn long s) ls → (k : ℕ) → ListedIn long s (attributes_of ls k)
  unfolding attributes_of
  attributes_in none k = inl refl
  attributes_in (more {x = l} r a) k = whichever (ListedIn long s) (eqb l.element k) (λ e. inr r) (λ e. attributes_in a k)

  listed_each : {ls : List AttList} → All (ListIn long s) ls → (k : ℕ) (es : List Element) → All (λ (e : Element). ListedIn long s e.attributes) (listed k ls es)
  unfolding listed
  listed_each a k [] = none
  listed_each a k (e ∷ es) = more (attributes_in a k) (listed_each a (k + 1) es)

  -- What holds where nothing is declared, and with a further element, holds of what is read, but for the attributes, which come behind. Those of each element are its
  -- list's.
  module _ (I : List Element → Type 0) (further : (es : List Element) (e : Element) → I es → Declares long s es e → I (es ++ e ∷ [])) where
    grown : {es ds : List Element} → Grows long s es ds → I es → I ds
    grown same x = x
    grown {es} (one e d) x = further es e x d

    record Whole (d : Declarations) : Type 0 where
      some : 1 ≤ length d.elements
      each : I d.elements
      bare : All Bare d.elements
      lists : All (ListIn long s) d.lists

    declarations_hold : (turns at : ℕ) (es : List Element) (ls : List AttList) → at ≤ length s → I es → All Bare es → All (ListIn long s) ls → Holds (InFile s) Whole (declarations_within long turns s at es ls)
    unfolding declarations_within
    declarations_hold zero at es ls h x y z = early s {n = 4} {k = length s} (omega arith)
    declarations_hold (suc turns) at es ls h x y z =
        let i = separators_end s at in
        either (leb (length s) i)
        (λ u. either (eqb (length es) 0) (λ v. early s (omega arith)) (λ v. reads (record { some = omega (arith, eqb-false (length es) 0 v); each = x; bare = y; lists = z })))
        (λ u. on (declaration_read i es ls (leb-false _ _ u))
        (λ d r. declarations_hold turns d.at d.elements d.lists r.inside (grown r.grows x) (bare_grown r.grows y) (listed_in r.lists z)))

    pub type_file_holds : I [] → Holds (InFile s) (λ (es : List Element). (1 ≤ length es) × I (bares es) × All (λ (e : Element). ListedIn long s e.attributes) es) (type_file long s)
    unfolding type_file
    type_file_holds x =
        on (declarations_hold (suc (length s)) 0 [] [] (omega arith) x none none) λ d r.
        reads (
          omega (arith, r.some, listed_length 1 d.lists d.elements),
          subst I (sym (bares_listed 1 d.lists r.bare)) r.each,
          listed_each r.lists 1 d.elements,
        )

  -- The bound on the turns is never reached: any two that are enough give the same.
  pub declarations_enough : (m n at : ℕ) (es : List Element) (ls : List AttList) → at ≤ length s → length s - at < m → length s - at < n → declarations_within long m s at es ls ≡ declarations_within long n s at es ls
  unfolding declarations_within
  declarations_enough zero n at es ls h i j = absurd (omega arith)
  declarations_enough (suc m) zero at es ls h i j = absurd (omega arith)
  declarations_enough (suc m) (suc n) at es ls h i j = go (leb (length s) k) refl (λ d r. declarations_enough m n d.at d.elements d.lists r.inside)
    where
      k : ℕ
      k = separators_end s at

      go : (b : Bool) → leb (length s) k ≡ b
          → ((d : Declarations) → DeclarationsRead long s k es ls d → length s - d.at < m → length s - d.at < n → declarations_within long m s d.at d.elements d.lists ≡ declarations_within long n s d.at d.elements d.lists)
          → declarations_within long (suc m) s at es ls ≡ declarations_within long (suc n) s at es ls
      go true e ih = rw (declarations_within, e)
      go false e ih =
          rw (declarations_within, e)
          (on_same (so (declaration_read k es ls (leb-false _ _ e)) (λ n p x. tt) (λ d r. r))
          (λ d r. ih d r (omega (arith, r.from, r.inside, separators_end_from s at)) (omega (arith, r.from, r.inside, separators_end_from s at))))

-- Where a word, the words and the end of a declaration lead.

pub omission_range : (long : ℕ) (s : List ℕ) (from i : ℕ) (w : Word) → i ≤ length s → omission long s from i ≡ got w → (i ≤ w.at) × (w.at ≤ length s)
omission_range long s from i w h e = let r = got_so (omission_read long s from i) e in (r.from, r.inside)

pub words_range : (long : ℕ) (s : List ℕ) (i e : ℕ) (h : Head) → e ≤ length s → words long s i e ≡ got h → (e ≤ h.at) × (h.at ≤ length s) × (h.name ≡ i) × (h.size ≡ e - i)
words_range long s i e h l q = let r = got_so (words_read long s i e l) q in (r.from, r.inside, r.name, r.size)

pub close_range : (s : List ℕ) (i k : ℕ) → close s i ≡ got k → (i < k) × (k ≤ length s)
close_range s i k e = omega (arith, got_so (close_read s i) e)
