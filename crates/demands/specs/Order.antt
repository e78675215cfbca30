-- The proof that the elements of a type file stand in it in declaration order: the name of each behind the
-- first "&" that is refused in the models before it.
use Rattle.std.proofs.Common.{ℕ, zero, suc, ◌+◌, ◌-◌, ◌≤◌, ◌<◌, ◌≡◌, refl, sym, subst, ◌⊎◌, inl, inr, length, eqb, leb, ltb, arith, List, [], ◌∷◌, ◌++◌}
use Rattle.rules.specs.Bytes.{byte_at, letter, name_end, separators_end, DSO, EXCLAMATION, MDC, MINUS, OPT, PERO, STAGO}
use Rattle.rules.specs.Reading.{Reading, got}
use Rattle.rules.specs.Attributes.{AttList}
use Rattle.rules.specs.TypeFile.{is_word, ELEMENT, ATTLIST, Head, head, ContentEnd, content, declare, Declared, rest, element, Element, attribute_list, Declarations, keyword, markup, declaration, declarations_within, listed, type_file}
use Rattle.text.specs.Words.{test_in, name_end_from, name_end_le, separators_end_from}
use Rattle.rules_laws.specs.Holds.{Holds, Gives, stops, reads, got_so, each, so, on, either}
use Rattle.rules_laws.specs.In.{All, none, more, all_snoc}
use Rattle.rules_laws.specs.Groups.{whatever_builds, content_read_lem}
use Rattle.rules_laws.specs.Gaps.{gap_within_lem, comment_within}
use Rattle.rules_laws.specs.Definitions.{list_holds}
use Rattle.rules_laws.specs.Declarations.{close_read, element_name_read, words_read, listed_read}

-- Each of these names stands behind what the element before has refused.
abbrev Later : Element → List Element → Type 0
Later e es = All (λ (f : Element). e.repeated < f.at) es

abbrev pub InOrder : List Element → Type 0
InOrder [] = Unit {0}
InOrder (e ∷ es) = Later e es × InOrder es

-- What is refused in these stands before `at`.
abbrev Before : ℕ → List Element → Type 0
Before at es = All (λ (e : Element). e.repeated < at) es

before_so : (at i : ℕ) (es : List Element) → at ≤ i → Before at es → Before i es
before_so at i [] l none = none
before_so at i (e ∷ es) l (more h a) =
    more {x = e} (let z : e.repeated < i = omega (arith, h, l) in z) (before_so at i es l a)

order_more : (es : List Element) (e : Element) → InOrder es → Before e.at es → InOrder (es ++ e ∷ [])
order_more [] e o none = (none, tt)
order_more (x ∷ es) e o (more h a) = (all_snoc o.0 h, order_more es e o.1 a)

-- Lists of attributes leave it so.
later_listed : (e : Element) (k : ℕ) (ls : List AttList) (es : List Element) → Later e es
    → Later e (listed k ls es)
unfolding listed
later_listed e k ls [] none = none
later_listed e k ls (f ∷ es) (more h a) = more h (later_listed e (k + 1) ls es a)

order_listed : (k : ℕ) (ls : List AttList) (es : List Element) → InOrder es → InOrder (listed k ls es)
unfolding listed
order_listed k ls [] o = tt
order_listed k ls (e ∷ es) o = (later_listed e (k + 1) ls es o.0, order_listed (k + 1) ls es o.1)

pub order_at : (earlier : List Element) (e : Element) (later : List Element) → InOrder (earlier ++ e ∷ later)
    → Later e later
order_at [] e later o = o.0
order_at (x ∷ earlier) e later o = order_at earlier e later o.1

-- What holds of a reading, whatever it refuses.
free : {A : Type 0} {R : (number position : ℕ) → Type 0} {P : A → Type 0} {r : Reading A} → Holds R P r
    → Gives P r
free h = so h (λ n k x. tt) (λ a x. x)

-- The type file s, of whose contents it is known that what is refused stands before their end.
module _ (long : ℕ) (s : List ℕ)
    (tells : (from i : ℕ) → Gives (λ (x : ContentEnd). x.repeated ≤ x.at) (content long s from i)) where
  head_behind : (at : ℕ) (es : List Element) → at ≤ length s
      → Gives (λ (h : Head). (at ≤ h.name) × (at ≤ h.at) × (h.at ≤ length s)) (head long s at es)
  unfolding head
  head_behind at es l =
      on (free (gap_within_lem s at l)) λ i p.
      on (free (element_name_read long s i es p.1)) λ e n.
      so (free (words_read long s i e n.inside)) (λ m k x. x) λ h w.
      (omega (arith, p, w.name), omega (arith, p, n.name.some, w.from), w.inside)

  content_ends : (from i : ℕ) → Gives
      (λ (x : ContentEnd). (i ≤ x.at) × (x.at ≤ length s) × (x.repeated ≤ x.at)) (content long s from i)
  content_ends from i =
      each (content long s from i) (λ n k e. tt)
      (λ x e. let r =
      got_so (content_read_lem long s whatever_builds from i) e in (
        r.from,
        r.inside,
        got_so
            (tells from i) e,
      ))

  -- What an element declaration adds, read from `at` on.
  record Added (at : ℕ) (es : List Element) (d : Declared) : Type 0 where
    added : Element
    elements : d.elements ≡ es ++ added ∷ []
    named : at ≤ added.at
    before : added.repeated < d.at
    from : at ≤ d.at
    inside : d.at ≤ length s

  rest_added : (at : ℕ) (es : List Element) (h : Head) → at ≤ h.name → at ≤ h.at → h.at ≤ length s
      → Gives (Added at es) (rest long s es h)
  unfolding rest
  rest_added at es h a b l =
      on (free (gap_within_lem s h.at l)) λ i p.
      on (content_ends h.at i) λ x r.
      on (free (gap_within_lem s x.at r.1)) λ j q.
      on (free (close_read s j)) λ k t.
      reads (record {
        added = declare h x;
        elements = refl;
        named = a;
        before = omega (arith, r, q, t);
        from = omega (arith, p, r, q, t);
        inside = t.1;
      })

  element_added : (at : ℕ) (es : List Element) → at ≤ length s → Gives (Added at es) (element long s at es)
  unfolding element
  element_added at es l = on (head_behind at es l) λ h w. rest_added at es h w.0 w.1 w.2

  -- What a declaration at i adds.
  record Step (i : ℕ) (es : List Element) (d : Declarations) : Type 0 where
    from : i ≤ d.at
    inside : d.at ≤ length s
    grows : (d.elements ≡ es)
        ⊎ ((e : Element) × (d.elements ≡ es ++ e ∷ []) × (i ≤ e.at) × (e.repeated < d.at))

  list_step : (i at : ℕ) (es : List Element) (ls : List AttList) → i ≤ at → at ≤ length s
      → Gives (Step i es) (attribute_list long s at es ls)
  unfolding attribute_list
  list_step i at es ls h l =
      on (free (gap_within_lem s at l)) λ j p.
      on (free (listed_read long s j es ls p.1)) λ y q.
      on (free (list_holds long s (λ xs. Unit {0}) (λ xs a x d. tt) y.at q.1 tt)) λ z r.
      reads (record { from = omega (arith, p, q, r.from); inside = r.inside; grows = inl refl })

  keyword_step : (i : ℕ) (es : List Element) (ls : List AttList) → i + 2 ≤ length s
      → Gives (Step i es) (keyword long s i es ls)
  unfolding keyword
  keyword_step i es ls h =
      let e = name_end s (i + 2) in
      let f = name_end_from s (i + 2) in
      let l = name_end_le s (i + 2) h in
      either (ltb long (e - (i + 2))) (λ x. stops tt)
      (λ x. either (is_word s (i + 2) e ELEMENT)
      (λ y. on (element_added e es l)
      (λ d r. reads
      (record {
        from = omega (arith, f, r.from);
        inside = r.inside;
        grows = inr (r.added, r.elements, omega (arith, f, r.named), r.before);
      })))
      (λ y. either (is_word s (i + 2) e ATTLIST) (λ z. list_step i e es ls (omega (arith, f)) l)
      (λ z. stops tt)))

  markup_step : (i : ℕ) (es : List Element) (ls : List AttList) → i + 2 ≤ length s
      → Gives (Step i es) (markup long s i es ls)
  unfolding markup
  markup_step i es ls h =
      let b = byte_at s (i + 2) in
      either (eqb b MDC)
      (λ x. reads (record {
        from = omega arith;
        inside = omega (arith, test_in (λ v. eqb v MDC) refl s (i + 2) x);
        grows = inl refl;
      }))
      (λ x. either (eqb b MINUS)
      (λ y. either (eqb (byte_at s (i + 3)) MINUS)
      (λ z. on (free (comment_within s (i + 2) h))
      (λ j l. reads (record { from = omega (arith, l); inside = l.1; grows = inl refl })))
      (λ z. stops tt))
      (λ y. either (eqb b DSO) (λ z. stops tt)
      (λ z. either (letter b) (λ u. keyword_step i es ls h) (λ u. stops tt))))

  declaration_step : (i : ℕ) (es : List Element) (ls : List AttList)
      → Gives (Step i es) (declaration long s i es ls)
  unfolding declaration
  declaration_step i es ls =
      let b = byte_at s i in
      let second = byte_at s (i + 1) in
      either (eqb b STAGO)
      (λ x. either (eqb second EXCLAMATION)
      (λ y. markup_step i es ls (omega (arith, test_in (λ v. eqb v EXCLAMATION) refl s (i + 1) y)))
      (λ y. either (eqb second OPT) (λ z. stops tt) (λ z. stops tt)))
      (λ x. either (eqb b PERO) (λ y. stops tt) (λ y. stops tt))

  abbrev Ordered : ℕ → List Element → Type 0
  Ordered at es = Before at es × InOrder es

  step_ordered : (at i : ℕ) (es : List Element) (d : Declarations) → at ≤ i → Ordered at es → Step i es d
      → Ordered d.at d.elements
  step_ordered at i es d h o w = go w.grows
    where
      go : (d.elements ≡ es)
          ⊎ ((e : Element) × (d.elements ≡ es ++ e ∷ []) × (i ≤ e.at) × (e.repeated < d.at))
          → Ordered d.at d.elements
      go (inl e) = subst (Ordered d.at) (sym e) (before_so at d.at es (omega (arith, w.from)) o.0, o.1)
      go (inr (e, q, a, b)) = subst (Ordered d.at) (sym q) (
        all_snoc (before_so at d.at es (omega (arith, w.from)) o.0) b,
        order_more es e o.1
            (before_so at e.at es (omega arith) o.0),
      )

  declarations_ordered : (turns at : ℕ) (es : List Element) (ls : List AttList) → Ordered at es
      → Gives (λ (d : Declarations). InOrder d.elements) (declarations_within long turns s at es ls)
  unfolding declarations_within
  declarations_ordered zero at es ls o = stops {n = 4} {k = length s} tt
  declarations_ordered (suc turns) at es ls o =
      let i = separators_end s at in
      either (leb (length s) i) (λ u. either (eqb (length es) 0) (λ v. stops tt) (λ v. reads o.1))
      (λ u. on (declaration_step i es ls)
      (λ d w. declarations_ordered turns d.at d.elements d.lists
      (step_ordered at i es d (separators_end_from s at) o w)))

  pub type_file_order : (es : List Element) → type_file long s ≡ got es → InOrder es
  unfolding type_file
  type_file_order es e = got_so read e
    where
      read : Gives InOrder (type_file long s)
      read = on (declarations_ordered (suc (length s)) 0 [] [] (none, tt))
          (λ d o. reads (order_listed 1 d.lists d.elements o))
