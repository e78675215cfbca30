-- The lists of a type: one more of them, and all of them read again.
use Rattle.std.specs.Prelude.{ℕ, Result, Ok, Err, is_ok, zero, suc, ◌+◌, ◌-◌, ◌*◌, ◌≤◌, ◌<◌, ◌≡◌, refl, Bool, not, ◌||◌, length, get_or, set, replicate}
use Rattle.std.proofs.Common.{sym, ◌∙◌, subst, true≢false, inl, inr, arith, get_or-set_same, get_or-set_other, eq-eqb, ne_eqb}
use Rattle.std.proofs.Math.Path.{ap}
use Rattle.std.proofs.Math.Bool.{true, false}
use mathlib.Core.List.{List, [], ◌∷◌, ◌++◌}
use Rattle.std.proofs.Math.Decide.{ℕ_discrete}
use Rattle.std.proofs.lemmas.List.{length-replicate, get_or-replicate}
use Rattle.std.proofs.Math.Dec.{eqb}
use Rattle.rules.specs.Reading.{got, and_then}
use Rattle.rules.specs.Attributes.{Attribute, AttList}
use Rattle.rules.specs.TypeFile.{gap, ListEnd, list_from, is_listed, Listed, listed_element, attribute_list, attributes_of, listed}
use Rattle.rules.specs.TypeFile as rules
use Rattle.rules.specs.Elements.{element_at}
use Rattle.rules.specs.Bytes.{element_limit}
use Rattle.text.specs.declared.Fault.{Fault}
use Rattle.text.specs.Refusal.{refusal_of}
use Rattle.layout.specs.Sizes.{LIST, LISTS}
use Rattle.list_table.specs.Lists.{ListAt, Lists, Copied}
use Rattle.list_definitions.specs.ListAs.{ListAs, MeetsList}
use Rattle.attribute_lists.specs.Listed.{HeadRead, Headed, HeadedAs, any_in, ListsAs, Again}
use Rattle.attribute_lists.specs.Lookup.{any_found}
use Rattle.rules_laws.specs.Holds.{got_one}

attributes_on : (b : Bool) (x q : List Attribute) {r : Bool} {a : List Attribute} → (b || r) ≡ false → (r ≡ false → q ≡ a) → elim b [ true ↦ x | false ↦ q ] ≡ a
attributes_on true x q e f = absurd (true≢false e)
attributes_on false x q e f = f e

-- An element without a list has no attributes.
pub attributes_none : (k : ℕ) (ls : List AttList) → is_listed ls k ≡ false → attributes_of ls k ≡ []
unfolding is_listed attributes_of
attributes_none k [] h = refl
attributes_none k (x ∷ ls) h = attributes_on (eqb x.element k) x.attributes (attributes_of ls k) h (λ u. attributes_none k ls u)

-- A list of one element more, which had none.
module _ (l : AttList) (k : ℕ) where
  same_on : (b : Bool) {r q : Bool} → (b || r) ≡ false → (r ≡ false → q ≡ true) → (b || q) ≡ true
  same_on true e f = absurd (true≢false e)
  same_on false e f = f e

  pub listed_same : (ls : List AttList) → is_listed ls k ≡ false → l.element ≡ k → is_listed (ls ++ l ∷ []) k ≡ true
  unfolding is_listed
  listed_same [] h e = rw (eq-eqb _ _ e)
  listed_same (x ∷ ls) h e = same_on (eqb x.element k) h (λ u. listed_same ls u e)

  pub attributes_same : (ls : List AttList) → is_listed ls k ≡ false → l.element ≡ k → attributes_of (ls ++ l ∷ []) k ≡ l.attributes
  unfolding is_listed attributes_of
  attributes_same [] h e = rw (eq-eqb _ _ e, attributes_of)
  attributes_same (x ∷ ls) h e = attributes_on (eqb x.element k) x.attributes (attributes_of (ls ++ l ∷ []) k) h (λ u. attributes_same ls u e)

  module _ (other : l.element ≡ k → ⊥) where
    pub listed_others : (ls : List AttList) → is_listed (ls ++ l ∷ []) k ≡ is_listed ls k
    unfolding is_listed
    listed_others [] = rw (ne_eqb _ _ other)
    listed_others (x ∷ ls) = ap (λ b. eqb x.element k || b) (listed_others ls)

    pub attributes_others : (ls : List AttList) → attributes_of (ls ++ l ∷ []) k ≡ attributes_of ls k
    unfolding attributes_of
    attributes_others [] = rw (ne_eqb _ _ other, attributes_of)
    attributes_others (x ∷ ls) = ap (λ (a : List Attribute). elim (eqb x.element k) [ true ↦ x.attributes | false ↦ a ]) (attributes_others ls)

-- Its head is written.
module _ (long : ℕ) (s heads : List ℕ) (ls : List AttList) (h : Headed long s heads ls) (k from e : ℕ) (xs : List Attribute) (sized : length heads ≡ element_limit) (least : 1 ≤ k) (most : k ≤ element_limit)
    (begins : 3 ≤ from) (inside : from ≤ length s) (free : get_or heads (k - 1) 0 ≡ 0) (read : list_from long s from ≡ got (record { attributes = xs; at = e })) where
  abbrev one : AttList
  one = record { element = k; attributes = xs }

  number : k - 1 + 1 ≡ k
  number = omega (arith, least)

  unlisted : is_listed ls (k - 1 + 1) ≡ false
  unlisted = h.has (k - 1) (omega (arith, least, most)) ∙ ap not (eq-eqb _ _ free)

  here : get_or (set heads (k - 1) from) (k - 1) 0 ≡ from
  here = get_or-set_same heads (k - 1) from 0 (omega (arith, sized, least, most))

  has_same : is_listed (ls ++ one ∷ []) (k - 1 + 1) ≡ not (eqb (get_or (set heads (k - 1) from) (k - 1) 0) 0)
  has_same = listed_same one (k - 1 + 1) ls unlisted (sym number) ∙ sym (ap not (ap (λ n. eqb n 0) here ∙ ne_eqb from 0 (λ z. omega (arith, begins, z))))

  reads_same : HeadRead long s (get_or (set heads (k - 1) from) (k - 1) 0) (ls ++ one ∷ []) (k - 1)
  reads_same =
      rw here
      (record {
        begins = begins;
        inside = inside;
        after = e;
        read = read ∙ ap (λ (a : List Attribute). got (record { attributes = a; at = e })) (sym (attributes_same one (k - 1 + 1) ls unlisted (sym number)));
      })

  module _ (j : ℕ) (m : j < element_limit) (other : j ≡ k - 1 → ⊥) where
    kept : get_or (set heads (k - 1) from) j 0 ≡ get_or heads j 0
    kept = get_or-set_other heads (k - 1) j from 0 other

    not_it : k ≡ j + 1 → ⊥
    not_it q = other (omega (arith, q))

    has_other : is_listed (ls ++ one ∷ []) (j + 1) ≡ not (eqb (get_or (set heads (k - 1) from) j 0) 0)
    has_other = listed_others one (j + 1) not_it ls ∙ h.has j m ∙ ap (λ n. not (eqb n 0)) (sym kept)

    reads_other : (get_or (set heads (k - 1) from) j 0 ≡ 0 → ⊥) → HeadRead long s (get_or (set heads (k - 1) from) j 0) (ls ++ one ∷ []) j
    reads_other f =
        let r = h.reads j m (λ z. f (kept ∙ z)) in
        rw kept
        (record {
          begins = r.begins;
          inside = r.inside;
          after = r.after;
          read = r.read ∙ ap (λ (a : List Attribute). got (record { attributes = a; at = r.after })) (sym (attributes_others one (j + 1) not_it ls));
        })

  pub headed_more : Headed long s (set heads (k - 1) from) (ls ++ one ∷ [])
  headed_more =
      record {
        has = λ j m. by_has j m (ℕ_discrete j (k - 1));
        reads = λ j m f. by_reads j m f (ℕ_discrete j (k - 1));
      }
    where
      by_has : (j : ℕ) → j < element_limit → Dec (j ≡ k - 1) → is_listed (ls ++ one ∷ []) (j + 1) ≡ not (eqb (get_or (set heads (k - 1) from) j 0) 0)
      by_has j m (yes q) = rw q has_same
      by_has j m (no q) = has_other j m q

      by_reads : (j : ℕ) → j < element_limit → (get_or (set heads (k - 1) from) j 0 ≡ 0 → ⊥) → Dec (j ≡ k - 1) → HeadRead long s (get_or (set heads (k - 1) from) j 0) (ls ++ one ∷ []) j
      by_reads j m f (yes q) = rw q reads_same
      by_reads j m f (no q) = reads_other j m q f

-- Where no list was read no element has a head.
pub headed_none : (long : ℕ) (s : List ℕ) {heads : List ℕ} → heads ≡ replicate element_limit 0 → Headed long s heads []
unfolding is_listed
headed_none long s {heads} e = record { has = λ k h. sym (ap not (eq-eqb _ _ (free k h))); reads = λ k h f. absurd (f (free k h)) }
  where
    free : (k : ℕ) → k < element_limit → get_or heads k 0 ≡ 0
    free k h = rw e (get_or-replicate element_limit k 0 0 h)

-- Where all were read each element gets the attributes of its list.
pub headed_all : {long : ℕ} {s heads : List ℕ} {ls : List AttList} → Headed long s heads ls → (es : List rules.Element) → HeadedAs long s heads (listed 1 ls es)
unfolding listed element_at
headed_all {ls = ls} h es = record { lists = ls; headed = h; each = λ k l. go 1 es k l }
  where
    go : (n : ℕ) (es : List rules.Element) (k : ℕ) → k < length (listed n ls es) → (element_at (listed n ls es) k).attributes ≡ attributes_of ls (k + n)
    go n [] k l = absurd (omega (arith, l))
    go n (e ∷ es) zero l = let z : n ≡ 0 + n = omega arith in ap (attributes_of ls) z
    go n (e ∷ es) (suc k) l = let z : k + (n + 1) ≡ suc k + n = omega arith in go (n + 1) es k (omega (arith, l)) ∙ ap (attributes_of ls) z

-- A declaration of a list, each way that it can go.
module _ (long : ℕ) (s : List ℕ) (at : ℕ) (es : List rules.Element) (ls : List AttList) where
  pub list_gap : {f : Fault} → gap s at ≡ refusal_of f → attribute_list long s at es ls ≡ refusal_of f
  unfolding attribute_list
  list_gap q = rw (attribute_list, q)

  module _ {i : ℕ} (g : gap s at ≡ got i) where
    pub list_unnamed : {f : Fault} → listed_element long s es ls i ≡ refusal_of f → attribute_list long s at es ls ≡ refusal_of f
    unfolding attribute_list
    list_unnamed q = rw (attribute_list, g, and_then, q)

    module _ {k from : ℕ} (l : listed_element long s es ls i ≡ got (record { element = k; at = from })) where
      pub list_undefined : {f : Fault} → list_from long s from ≡ refusal_of f → attribute_list long s at es ls ≡ refusal_of f
      unfolding attribute_list
      list_undefined q = rw (attribute_list, g, and_then, l, and_then, q)

      pub list_read : {xs : List Attribute} {e : ℕ} → list_from long s from ≡ got (record { attributes = xs; at = e })
          → attribute_list long s at es ls ≡ got (record { elements = es; lists = ls ++ record { element = k; attributes = xs } ∷ []; at = e })
      unfolding attribute_list
      list_read q = rw (attribute_list, g, and_then, l, and_then, q)

      pub list_headed : (heads list : List ℕ) (e : ℕ) → Headed long s heads ls → length heads ≡ element_limit → 3 ≤ from → from ≤ length s → 1 ≤ k → k ≤ element_limit → get_or heads (k - 1) 0 ≡ 0 → ListAs long s list e (list_from long s from)
          → ListsAs long s (set heads (k - 1) from) es e (attribute_list long s at es ls)
      list_headed heads list e h sized begins inside least most free d =
          record {
            lists = ls ++ record { element = k; attributes = d.attributes } ∷ [];
            read = list_read d.read;
            headed = headed_more long s heads ls h k from e d.attributes sized least most begins inside free d.read;
          }

-- The list of one element read again.
module _ (long : ℕ) (s : List ℕ) (from k : ℕ) (lists : List ℕ) where
  pub again_outside : (3 ≤ from → from ≤ length s → ⊥) → Again long s from k lists lists
  again_outside h = record { as_long = refl; none = λ z. refl; there = λ ls r. absurd (h r.begins r.inside); others = λ b xs o l. l }

  again_refused : {f : Fault} → list_from long s from ≡ refusal_of f → Again long s from k lists lists
  again_refused {f} q =
      record {
        as_long = refl;
        none = λ z. refl;
        there = λ ls r. absurd (never r.read);
        others = λ b xs o l. l;
      }
    where
      never : {l : ListEnd} → list_from long s from ≡ got l → ⊥
      never e = let z : ◌≡◌ {A = ℕ} 0 1 = cc in omega arith

  again_put : (list after : List ℕ) (e : ℕ) → 3 ≤ from → ListAs long s list e (list_from long s from) → Copied list (LIST * k) lists after → Again long s from k lists after
  again_put list after e begins r put =
      record {
        as_long = put.long;
        none = λ z. absurd (omega (arith, begins, z));
        there = λ ls h. subst (ListAt long s after (LIST * k)) (same r.attributes (attributes_of ls (k + 1)) e h.after r.read h.read) (put.there long s r.attributes r.listed);
        others = λ b xs o l. put.others long s b xs o l;
      }
    where
      same : (xs ys : List Attribute) (i j : ℕ) → list_from long s from ≡ got (record { attributes = xs; at = i }) → list_from long s from ≡ got (record { attributes = ys; at = j }) → xs ≡ ys
      same xs ys i j p q = ap (λ (l : ListEnd). l.attributes) (got_one (sym p ∙ q))

  -- By what the code says of it.
  pub again_ok : (list after : List ℕ) (r : Result ℕ Fault) {b : Bool} → MeetsList long s list r (list_from long s from) → b ≡ is_ok r → b ≡ true → 3 ≤ from → Copied list (LIST * k) lists after → Again long s from k lists after
  again_ok list after (Ok e) m q h begins put = again_put list after e begins m put
  again_ok list after (Err f) m q h begins put = absurd (true≢false (sym h ∙ q))

  pub again_err : (list : List ℕ) (r : Result ℕ Fault) {b : Bool} → MeetsList long s list r (list_from long s from) → b ≡ is_ok r → b ≡ false → Again long s from k lists lists
  again_err list (Ok e) m q h = absurd (true≢false (sym q ∙ h))
  again_err list (Err f) m q h = again_refused m

-- The first k lists are in the table, and the others are empty.
pub record Fills (long : ℕ) (s heads lists : List ℕ) (k : ℕ) : Type 0 where
  as_long : length lists ≡ LISTS
  done : (ls : List AttList) → Headed long s heads ls → (j : ℕ) → j < k → ListAt long s lists (LIST * j) (attributes_of ls (j + 1))
  rest : (j : ℕ) → k ≤ j → j < element_limit → ListAt long s lists (LIST * j) []

module _ (long : ℕ) (s heads : List ℕ) where
  pub fills_none : {lists : List ℕ} → lists ≡ replicate LISTS 0 → Fills long s heads lists 0
  fills_none e =
      record {
        as_long = rw e (length-replicate {A = ℕ} LISTS 0);
        done = λ ls h j l. absurd (omega (arith, l));
        rest = λ j l m. record { counted = rw e (get_or-replicate LISTS (LIST * j) 0 0 (omega (arith, m))); few = omega arith; rows = λ i x. absurd (omega (arith, x)) };
      }

  pub fills_long : {lists : List ℕ} {k : ℕ} → Fills long s heads lists k → length lists ≡ LISTS
  fills_long f = f.as_long

  pub fills_all : {lists : List ℕ} {k n : ℕ} → Fills long s heads lists k → n ≤ k → (ls : List AttList) → Headed long s heads ls → (j : ℕ) → j < n → ListAt long s lists (LIST * j) (attributes_of ls (j + 1))
  fills_all f l ls h j m = f.done ls h j (omega (arith, l, m))

  module _ {lists after : List ℕ} {k : ℕ} (m : k < element_limit) (f : Fills long s heads lists k) {from : ℕ} (head : from ≡ get_or heads k 0) (a : Again long s from k lists after) where
    put : (ls : List AttList) → Headed long s heads ls → Dec (get_or heads k 0 ≡ 0) → ListAt long s after (LIST * k) (attributes_of ls (k + 1))
    put ls h (yes z) =
        let e : attributes_of ls (k + 1) ≡ [] = attributes_none (k + 1) ls (h.has k m ∙ ap not (eq-eqb _ _ z)) in
        rw (a.none (head ∙ z), e) (f.rest k (omega arith) m)
    put ls h (no z) = a.there ls (rw head (h.reads k m z))

    done_next : (ls : List AttList) → Headed long s heads ls → (j : ℕ) → j < k + 1 → Dec (j ≡ k) → ListAt long s after (LIST * j) (attributes_of ls (j + 1))
    done_next ls h j l (yes q) = rw q (put ls h (ℕ_discrete (get_or heads k 0) 0))
    done_next ls h j l (no q) = a.others (LIST * j) (attributes_of ls (j + 1)) (inl (omega (arith, l, q))) (f.done ls h j (omega (arith, l, q)))

    pub fills_turn : Fills long s heads after (k + 1)
    fills_turn =
        record {
          as_long = a.as_long ∙ f.as_long;
          done = λ ls h j l. done_next ls h j l (ℕ_discrete j k);
          rest = λ j l n. a.others (LIST * j) [] (inr (omega (arith, l))) (f.rest j (omega (arith, l)) n);
        }

-- The table of a type's lists: filled, or empty where no element has a list.
module _ {long : ℕ} {s heads : List ℕ} {es : List rules.Element} (h : HeadedAs long s heads es) where
  pub lists_filled : (lists : List ℕ) → ((ls : List AttList) → Headed long s heads ls → (k : ℕ) → k < length es → ListAt long s lists (LIST * k) (attributes_of ls (k + 1))) → Lists long s es lists
  lists_filled lists f k l = rw (h.each k l) (f h.lists h.headed k l)

  pub lists_none : length es ≤ element_limit → any_in heads (length es) ≡ false → Lists long s es []
  lists_none few none k l = rw (h.each k l, attributes_none (k + 1) h.lists unlisted) (record { counted = refl; few = omega arith; rows = λ i x. absurd (omega (arith, x)) })
    where
      unlisted : is_listed h.lists (k + 1) ≡ false
      unlisted = by_head (ℕ_discrete (get_or heads k 0) 0)
        where
          by_head : Dec (get_or heads k 0 ≡ 0) → is_listed h.lists (k + 1) ≡ false
          by_head (yes z) = h.headed.has k (omega (arith, l, few)) ∙ ap not (eq-eqb _ _ z)
          by_head (no z) = absurd (true≢false (sym (any_found heads k (length es) l z) ∙ none))
