-- The places of a model, filed by name: what each names, the next smaller of its name, and the largest of each name.
use Rattle.std.specs.Prelude.{ℕ, ◌+◌, ◌-◌, ◌*◌, ◌≤◌, ◌<◌, ◌≡◌, refl, true, cond, List, length, get_or, set, eqb}
use Rattle.std.proofs.Common.{sym, ap, ◌∙◌, arith, length-set, get_or-set_same, get_or-set_other, below_more, eq-eqb, eqb-true, ne_eqb}
use Rattle.std.proofs.lemmas.Bool.{eqb-false}
use Rattle.rules.specs.Reading.{got}
use Rattle.rules.specs.TypeFile.{Place, Element, type_file}
use Rattle.rules.specs.Judge.{place_at}
use Rattle.rules.specs.Elements.{number_of}
use Rattle.rules.specs.Decisions.{Token, start, pcdata, has_name}
use Rattle.layout.specs.Sizes.{POSITIONS, PLACES, FACT, FACTS, PCDATA, START_OMITTED, LINK}
use Rattle.basic_laws.specs.Truth.{not_both, bool_cases}
use Rattle.document_laws.specs.Decide.{search}
use Rattle.rules_laws.specs.Within.{type_file_count}
use Rattle.rules.specs.Bytes.{GRPGTCNT, element_limit}
use Rattle.type_laws.specs.Names.{named_number, number_of_range, number_of_pcdata, pcdata_name}
use Rattle.type_tables.specs.Tables.{name_number, Declares, named_by}
use Rattle.row_search.specs.Search.{search_hit, search_miss}

-- By which number a place that names v is filed: that of the element, 0 for `#PCDATA`.
abbrev pub slot_of : ℕ → ℕ
slot_of v = cond (eqb v PCDATA) 0 v

-- Names

module _ (long : ℕ) (s : List ℕ) (es : List Element) (read : type_file long s ≡ got es) (ps : List Place) (p v : ℕ) (is : v ≡ named_by s es ps p) where
  abbrev at : ℕ
  at = (place_at ps (p - 1)).at

  abbrev size : ℕ
  size = (place_at ps (p - 1)).size

  -- What the place names is an element or nothing, or `#PCDATA`.
  element_or_none : (size ≡ 0 → ⊥) → (v ≡ number_of s es s at size) × (v ≤ element_limit) × (slot_of v ≡ v)
  element_or_none z =
      let q : v ≡ number_of s es s at size = is ∙ rw (ne_eqb size 0 z) in
      let l : v ≤ element_limit = omega (arith, number_of_range s es s at size, type_file_count long s es read) in
      (q, l, rw (ne_eqb v PCDATA (λ y. omega arith)))

  pcdata_there : size ≡ 0 → v ≡ PCDATA
  pcdata_there z = is ∙ rw (eq-eqb size 0 z)

  no_element : (k : ℕ) → 1 ≤ k → size ≡ 0 → number_of s es s at size ≡ k → ⊥
  no_element k l z q = let n : number_of s es s at 0 ≡ k = rw z at q in omega (arith, number_of_pcdata long s es read s at)

  -- What the place names fits, and so does the number by which it is filed.
  named_fits : (v ≤ 255) × (slot_of v ≤ element_limit)
  named_fits =
      bool_cases (eqb size 0)
      (λ z. let q = pcdata_there (eqb-true size 0 z) in rw q (omega arith))
      (λ z. let (q, l, r) = element_or_none (eqb-false size 0 z) in (omega arith, omega arith))

  -- A token has the name of a place exactly if the place is filed by its number.
  filed : (t : Token) → Declares es t → has_name s es ps t p ≡ true → (1 ≤ v) × (slot_of v ≡ name_number t)
  filed (start k) (a, b) h =
      let n = (named_number long s es read ps k p a b).0 h in
      let (q, l, r) = element_or_none (λ z. no_element k a z n) in
      (omega arith, omega arith)
  filed pcdata d h =
      let q = pcdata_there (eqb-true size 0 (sym (pcdata_name s es ps p) ∙ h)) in
      rw q (omega arith)

  filed_only : (t : Token) → Declares es t → 1 ≤ v → slot_of v ≡ name_number t → has_name s es ps t p ≡ true
  filed_only (start k) (a, b) l e =
      bool_cases (eqb size 0)
      (λ z. let q = pcdata_there (eqb-true size 0 z) in let y : 0 ≡ k = rw q at e in absurd (omega arith))
      (λ z. let (q, m, r) = element_or_none (eqb-false size 0 z) in (named_number long s es read ps k p a b).1 (omega arith))
  filed_only pcdata d l e =
      bool_cases (eqb size 0)
      (λ z. pcdata_name s es ps p ∙ z)
      (λ z. let (q, m, r) = element_or_none (eqb-false size 0 z) in absurd (omega arith))

-- One place

-- The place p of the element e, which names v, is put before those of the name that are there.
pub record PlacePut (e p v : ℕ) (P F P' F' : List ℕ) : Type 0 where
  pub places_len : length P' ≡ PLACES
  pub facts_len : length F' ≡ FACTS
  pub under : (k : ℕ) → k < (e * POSITIONS + p) * LINK → get_or P' k 0 ≡ get_or P k 0
  pub named : get_or P' ((e * POSITIONS + p) * LINK) 0 ≡ v
  pub smaller : 1 ≤ v → get_or P' ((e * POSITIONS + p) * LINK + 1) 0 ≡ get_or F (e * FACT + slot_of v) 0
  pub largest : 1 ≤ v → get_or F' (e * FACT + slot_of v) 0 ≡ p
  pub others : (k : ℕ) → (1 ≤ v → k ≡ e * FACT + slot_of v → ⊥) → get_or F' k 0 ≡ get_or F k 0

module _ (e p v : ℕ) (P F : List ℕ) (e_to : e ≤ element_limit) (p_to : p ≤ GRPGTCNT) (l : length P ≡ PLACES) (m : length F ≡ FACTS) where
  pub place_none : v ≡ 0 → PlacePut e p v P F (set P ((e * POSITIONS + p) * LINK) v) F
  place_none z =
      let q : ℕ = (e * POSITIONS + p) * LINK in
      record {
        places_len = length-set P q v ∙ l;
        facts_len = m;
        under = λ k h. get_or-set_other P q k v 0 (omega arith);
        named = get_or-set_same P q v 0 (omega arith);
        smaller = λ h. absurd (omega arith);
        largest = λ h. absurd (omega arith);
        others = λ k h. refl;
      }

  pub place_some : (f a : ℕ) → 1 ≤ v → slot_of v ≤ element_limit → f ≡ e * FACT + slot_of v → a ≡ get_or F f 0 → PlacePut e p v P F (set (set P ((e * POSITIONS + p) * LINK) v) ((e * POSITIONS + p) * LINK + 1) a) (set F f p)
  place_some f a some s_to is has =
      let q : ℕ = (e * POSITIONS + p) * LINK in
      let R : List ℕ = set P q v in
      let n : length R ≡ PLACES = length-set P q v ∙ l in
      record {
        places_len = length-set R (q + 1) a ∙ n;
        facts_len = length-set F f p ∙ m;
        under = λ k h. get_or-set_other R (q + 1) k a 0 (omega arith) ∙ get_or-set_other P q k v 0 (omega arith);
        named = get_or-set_other R (q + 1) q a 0 (omega arith) ∙ get_or-set_same P q v 0 (omega arith);
        smaller = λ h. get_or-set_same R (q + 1) a 0 (omega arith) ∙ has ∙ ap (λ (i : ℕ). get_or F i 0) is;
        largest = λ h. rw (← is) (get_or-set_same F f p 0 (omega arith));
        others = λ k h. get_or-set_other F f k p 0 (λ x. h some (x ∙ is));
      }

-- The places of a model

-- The places of the element e below p, and nothing else of it, are filed in P and F.
pub record PlacesPut (s : List ℕ) (es : List Element) (ps : List Place) (e : ℕ) (P F P' F' : List ℕ) (p : ℕ) : Type 0 where
  pub places_len : length P' ≡ PLACES
  pub facts_len : length F' ≡ FACTS
  pub places_under : (k : ℕ) → k < e * POSITIONS * 2 → get_or P' k 0 ≡ get_or P k 0
  pub facts_under : (k : ℕ) → k < e * FACT → get_or F' k 0 ≡ get_or F k 0
  pub facts_over : (k : ℕ) → e * FACT + START_OMITTED ≤ k → get_or F' k 0 ≡ get_or F k 0
  pub named : (q : ℕ) → q < p → 1 ≤ q → get_or P' ((e * POSITIONS + q) * LINK) 0 ≡ named_by s es ps q
  pub smaller : (q : ℕ) → q < p → 1 ≤ q → (t : Token) → Declares es t → has_name s es ps t q ≡ true → get_or P' ((e * POSITIONS + q) * LINK + 1) 0 ≡ search (has_name s es ps t) (q - 1)
  pub largest : (t : Token) → Declares es t → get_or F' (e * FACT + name_number t) 0 ≡ search (has_name s es ps t) (p - 1)

pub number_few : (es : List Element) (t : Token) → length es ≤ element_limit → Declares es t → name_number t ≤ element_limit
number_few es (start k) l d = omega arith
number_few es pcdata l d = omega arith

module _ (long : ℕ) (s : List ℕ) (es : List Element) (read : type_file long s ≡ got es) (ps : List Place) (e : ℕ) (P F : List ℕ) where
  pub places_none : length P ≡ PLACES → length F ≡ FACTS → ((k : ℕ) → e * FACT ≤ k → k < e * FACT + START_OMITTED → get_or F k 0 ≡ 0) → PlacesPut s es ps e P F P F 1
  unfolding search
  places_none l m blank =
      record {
        places_len = l;
        facts_len = m;
        places_under = λ k h. refl;
        facts_under = λ k h. refl;
        facts_over = λ k h. refl;
        named = λ q a b. absurd (omega arith);
        smaller = λ q a b t d h. absurd (omega arith);
        largest = λ t d. blank (e * FACT + name_number t) (omega arith) (omega (arith, number_few es t (type_file_count long s es read).1 d));
      }

  module _ (Q G : List ℕ) (p : ℕ) (from : 1 ≤ p) (to : p ≤ GRPGTCNT) (h : PlacesPut s es ps e P F Q G p) (v : ℕ) (is : v ≡ named_by s es ps p) (R H : List ℕ) (w : PlacePut e p v Q G R H) where
    slot_in : slot_of v ≤ element_limit
    slot_in = (named_fits long s es read ps p v is).1

    largest_more : (t : Token) → Declares es t → get_or H (e * FACT + name_number t) 0 ≡ search (has_name s es ps t) p
    largest_more t d =
        bool_cases (has_name s es ps t p)
        (λ y. let (l, q) = filed long s es read ps p v is t d y in (rw q at (w.largest l)) ∙ sym (search_hit _ p from y))
        (λ y.
        w.others (e * FACT + name_number t) (λ l q. not_both y (filed_only long s es read ps p v is t d l (omega arith)))
        ∙ h.largest t d
        ∙ sym (search_miss _ p from y))

    smaller_more : 1 ≤ p → (t : Token) → Declares es t → has_name s es ps t p ≡ true → get_or R ((e * POSITIONS + p) * LINK + 1) 0 ≡ search (has_name s es ps t) (p - 1)
    smaller_more l t d y = let (a, q) = filed long s es read ps p v is t d y in w.smaller a ∙ rw q (h.largest t d)

    pub places_more : PlacesPut s es ps e P F R H (p + 1)
    places_more =
        let z : p + 1 - 1 ≡ p = omega arith in
        record {
          places_len = w.places_len;
          facts_len = w.facts_len;
          places_under = λ k l. w.under k (omega arith) ∙ h.places_under k l;
          facts_under = λ k l. w.others k (λ a q. omega arith) ∙ h.facts_under k l;
          facts_over = λ k l. w.others k (λ a q. omega (arith, slot_in)) ∙ h.facts_over k l;
          named = below_more (λ (q : ℕ). 1 ≤ q → get_or R ((e * POSITIONS + q) * LINK) 0 ≡ named_by s es ps q) p (λ q a b. w.under ((e * POSITIONS + q) * LINK) (omega arith) ∙ h.named q a b) (λ b. w.named ∙ is);
          smaller =
              below_more (λ (q : ℕ). 1 ≤ q → (t : Token) → Declares es t → has_name s es ps t q ≡ true → get_or R ((e * POSITIONS + q) * LINK + 1) 0 ≡ search (has_name s es ps t) (q - 1)) p
              (λ q a b t d y. w.under ((e * POSITIONS + q) * LINK + 1) (omega arith) ∙ h.smaller q a b t d y)
              smaller_more;
          largest = λ t d. rw z (largest_more t d);
        }
