-- One element of an indexed type: what its record and its declaration, read again, put into the tables.
use Rattle.std.specs.Prelude.{ℕ, zero, suc, ◌+◌, ◌-◌, ◌*◌, ◌≤◌, ◌<◌, ◌≡◌, refl, Bool, true, false, not, ◌&&◌, cond, List, [], ◌∷◌, length, get_or, set, eqb, Option, Some, None, Result, Ok, Err}
use Rattle.std.proofs.Common.{sym, ap, subst, ◌∙◌, true≢false, inl, inr, not-suc-le-zero, le_of_suc-le-suc, arith, length-set, get_or-set_same, get_or-set_other}
use Rattle.std.proofs.Math.Bool.{and-true, and-false}
use Rattle.basic_laws.specs.Numbers.{bit_most}
use Rattle.rules.specs.Settings.{settings, most_name_length}
use Rattle.rules.specs.Walk.{Group}
use Rattle.rules.specs.Attributes.{Attribute, needs_tag}
use Rattle.rules.specs.TypeFile.{Place, Content, empty, model, Element, element}
use Rattle.rules.specs.Judge.{Accepts, place_at, record_width}
use Rattle.rules.specs.Elements.{element_at, content_of, places_in, has_model}
use Rattle.layout.specs.Sizes.{FACT, FACTS, LIST, CONTENTS, END_OMITTED, HAS_MODEL, RAISE, START_OMITTED}
use Rattle.model_sets.specs.Sets.{size}
use Rattle.and_laws.specs.Numbers.{Guarded, has_range}
use Rattle.rules_laws.specs.Groups.{GuardedIn}
use Rattle.document_laws.specs.Decide.{content_guarded}
use Rattle.document_laws.specs.Numbers.{type_file_guarded}
use Rattle.model_names.specs.Places.{places_of}
use Rattle.model_names.specs.Shared.{place_at_places_of}
use Rattle.text.specs.declared.Fault.{Fault}
use Rattle.element_reader.specs.Keeps.{Recorded, KeepsModel, KeepsContent, MeetsElement}
use Rattle.element_reader.specs.declared as declared
use Rattle.element_content.specs.declared.Model.{Model}
use Rattle.rules_laws.specs.Offered.{offered_range}
use Rattle.rules_laws.specs.Within.{All, more, PlaceIn, ContentIn}
use Rattle.rules.specs.Bytes.{GRPGTCNT, element_limit, type_limit}
use Rattle.member_laws.specs.Own.{required_size}
use Rattle.type_laws.specs.Models.{ShortIn}
use Rattle.type_laws.specs.Again.{type_file_sizes}
use Rattle.type_laws.specs.Members.{type_file_members}
use Rattle.type_laws.specs.Width.{type_file_content, type_file_places_short}
use Rattle.element_index.specs.Indexed.{Indexed}
use Rattle.list_table.specs.Lists.{ListAt, Lists}
use Rattle.type_tables.specs.Tables.{row_at, PlainIn}
use Rattle.member_table.specs.Filling.{filled}
use Rattle.member_sets.specs.Linking.{Linked}
use Rattle.model_rows.specs.Rows.{RowsDue, RowsPut}
use Rattle.table_fill.specs.Places.{PlacesPut, places_none}
use Rattle.table_fill.specs.Told.{TellsIn, lent_still, members_put}
use Rattle.table_fill.specs.Filled.{Filled, RowsFor, TagsPut, LargestPut, MembersPut, largest_same, members_same, filled_more}
use Rattle.table_fill.specs.Kinds.{rows_model, rows_empty}
use Rattle.table_fill.specs.Again.{ReadsAs, recorded_name, recorded_start, recorded_end, recorded_kind, content_at, reads_again}
use Rattle.table_fill.specs.Names.{IsName, NamesFit, PlacesDue}
use Rattle.element_content.specs.Kept.{content_places}

-- What is kept of the start of the element e: 1 where it may be inferred, by its record and its list.
pub record StartFact (elements lists : List ℕ) (e n : ℕ) : Type 0 where
  pub is : (long : ℕ) (s : List ℕ) (xs : List Attribute) → ListAt long s lists (LIST * (e - 1)) xs → eqb n 1 ≡ (eqb (get_or elements (record_width * (e - 1) + 2) 0) 1 && not (needs_tag xs))

-- That, and whether its end may be omitted and its content, from the record.
pub record FactsPut (elements lists : List ℕ) (e : ℕ) (F G : List ℕ) : Type 0 where
  pub start : ℕ
  pub fact : StartFact elements lists e start
  pub put : G ≡ set (set (set F (e * FACT + START_OMITTED) start) (e * FACT + END_OMITTED) (get_or elements (record_width * (e - 1) + 3) 0)) (e * FACT + HAS_MODEL) (get_or elements (record_width * (e - 1) + 4) 0)

module _ (elements lists : List ℕ) (e : ℕ) {b : Bool} (says : (long : ℕ) (s : List ℕ) (xs : List Attribute) → ListAt long s lists (LIST * (e - 1)) xs → b ≡ needs_tag xs) where
  pub start_required : b ≡ true → StartFact elements lists e 0
  start_required t = record { is = λ long s xs l. sym (and-false (eqb (get_or elements (record_width * (e - 1) + 2) 0) 1)) ∙ ap (λ (r : Bool). eqb (get_or elements (record_width * (e - 1) + 2) 0) 1 && not r) (sym t ∙ says long s xs l) }

  pub start_recorded : b ≡ false → StartFact elements lists e (get_or elements (record_width * (e - 1) + 2) 0)
  start_recorded t = record { is = λ long s xs l. sym (and-true (eqb (get_or elements (record_width * (e - 1) + 2) 0) 1)) ∙ ap (λ (r : Bool). eqb (get_or elements (record_width * (e - 1) + 2) 0) 1 && not r) (sym t ∙ says long s xs l) }

-- The three numbers are 0 or 1.
pub record Flags (elements : List ℕ) (e : ℕ) : Type 0 where
  pub start : get_or elements (record_width * (e - 1) + 2) 0 ≤ 1
  pub end : get_or elements (record_width * (e - 1) + 3) 0 ≤ 1
  pub kind : get_or elements (record_width * (e - 1) + 4) 0 ≤ 1

-- What is asked for the element e to be put: the type is accepted where names may have `long` bytes, as its declaration is read again, indexed, and its lists are in their
-- table; the tables are filled up to e.
pub record ElementDue (long : ℕ) (s : List ℕ) (es : List Element) (elements lists index rows places facts members : List ℕ) (e : ℕ) : Type 0 where
  pub edition : ℕ
  pub accepted : Accepts (settings long edition) s es
  pub indexed : Indexed s es elements index
  pub listed : Lists long s es lists
  pub from : 1 ≤ e
  pub to : e ≤ length es
  pub filled : Filled s es rows places facts members e

name_at_lem : (s : List ℕ) (long : ℕ) → long ≤ most_name_length → (ps : List Place) → All (PlaceIn s) ps → All (λ (x : Place). x.size ≤ long) ps → (k : ℕ) → k < length ps → IsName s (place_at ps k)
unfolding place_at
name_at_lem s long most [] w u k h = absurd (not-suc-le-zero h)
name_at_lem s long most (x ∷ ps) (more p w) (more l u) zero h = (omega arith, p.ends)
name_at_lem s long most (x ∷ ps) (more p w) (more l u) (suc k) h = name_at_lem s long most ps w u k (le_of_suc-le-suc h)

module _ (long : ℕ) (s : List ℕ) (es : List Element) (elements lists index R P F M : List ℕ) (e : ℕ) (due : ElementDue long s es elements lists index R P F M e) where
  abbrev k : ℕ
  k = e - 1

  k_in : k < length es
  k_in = let a = due.from in let b = due.to in omega arith

  pub few : e ≤ element_limit
  few = omega (arith, due.to, due.indexed.few)

  -- The record

  pub flags : Flags elements e
  flags =
      let (a, b, g, d, f) = type_file_sizes long s es due.accepted.elements k k_in in
      record {
        start = omega (arith, recorded_start elements es due.indexed.recorded k k_in);
        end = omega (arith, recorded_end elements es due.indexed.recorded k k_in);
        kind = omega (arith, recorded_kind elements es due.indexed.recorded k k_in, bit_most (has_model (element_at es k).content));
      }

  -- Where the name stands, and how long the type file is.
  pub name_in : (at : ℕ) → at ≡ get_or elements (record_width * (e - 1)) 0 → (at ≤ length s) × (length s ≤ type_limit) × (e - 1 ≤ element_limit)
  name_in at q =
      let (a, b, g, d, f) = type_file_sizes long s es due.accepted.elements k k_in in
      (omega (arith, recorded_name elements es due.indexed.recorded k k_in), due.accepted.legible.short, omega (arith, few))

  tags_put : (G : List ℕ) → FactsPut elements lists e F G → TagsPut (element_at es k) (content_of es e) e F G
  tags_put G p =
      let most : e ≤ element_limit = few in
      let r = due.indexed.recorded in
      let x : ℕ = e * FACT + START_OMITTED in
      let y : ℕ = e * FACT + END_OMITTED in
      let z : ℕ = e * FACT + HAS_MODEL in
      let a : ℕ = p.start in
      let b : ℕ = get_or elements (record_width * (e - 1) + 3) 0 in
      let d : ℕ = get_or elements (record_width * (e - 1) + 4) 0 in
      let F₁ : List ℕ = set F x a in
      let F₂ : List ℕ = set F₁ y b in
      let l : length F ≡ FACTS = due.filled.facts_len in
      let l₁ : length F₁ ≡ FACTS = length-set F x a ∙ l in
      let l₂ : length F₂ ≡ FACTS = length-set F₁ y b ∙ l₁ in
      let else : (j : ℕ) → (j ≡ x → ⊥) → (j ≡ y → ⊥) → (j ≡ z → ⊥) → get_or (set F₂ z d) j 0 ≡ get_or F j 0 =
      λ j p q r. get_or-set_other F₂ z j d 0 r ∙ get_or-set_other F₁ y j b 0 q ∙ get_or-set_other F x j a 0 p in
      let kept : get_or (set F₂ z d) x 0 ≡ a = get_or-set_other F₂ z x d 0 (omega arith) ∙ get_or-set_other F₁ y x b 0 (omega arith) ∙ get_or-set_same F x a 0 (omega arith) in
      let attributes : List Attribute = (element_at es k).attributes in
      rw p.put (record {
        len = length-set F₂ z d ∙ l₂;
        under = λ j h. else j (omega arith) (omega arith) (omega arith);
        over = λ j h. else j (omega arith) (omega arith) (omega arith);
        tags = λ h. record {
          start = ap (λ (n : ℕ). eqb n 1) kept ∙ p.fact.is long s attributes (due.listed k k_in) ∙ ap (λ (n : ℕ). eqb n 1 && not (needs_tag attributes)) (recorded_start elements es r k k_in);
          end = get_or-set_other F₂ z y d 0 (omega arith) ∙ get_or-set_same F₁ y b 0 (omega arith) ∙ recorded_end elements es r k k_in;
          has = rw (content_at es e due.from) (get_or-set_same F₂ z d 0 (omega arith) ∙ recorded_kind elements es r k k_in);
        };
      })

  -- The declaration, read again

  module _ (names table : List ℕ) (at : ℕ) (x : Result declared.Element.Element Fault) (stands : at ≡ get_or elements (record_width * (e - 1)) 0)
      (met : (fs : List Element) → length fs ≡ e - 1 → Recorded elements fs → MeetsElement (length s) at names table fs x (element long s at fs)) where
    again : ReadsAs names table (content_of es e) x
    again = reads_again long s elements es due.accepted.elements due.indexed.recorded e due.from due.to names table at x stands met

    pub not_refused : (f : Fault) → x ≡ Err f → ⊥
    not_refused f q = rw q at again

    module _ (d : declared.Element.Element) (is : x ≡ Ok d) where
      keeps : KeepsContent names table d.model (content_of es e)
      keeps = rw is at again

      -- It is a model.
      module _ (m : Model) (has : d.model ≡ Some m) where
        keeps_model : KeepsContent names table (Some m) (content_of es e)
        keeps_model = subst (λ (o : Option Model). KeepsContent names table o (content_of es e)) has keeps

        pub places_few : m.places ≤ GRPGTCNT
        places_few = content_places names table m (content_of es e) keeps_model

        names_fit : NamesFit s names m.places
        names_fit = by_content (content_of es e) keeps_model (type_file_content long s es due.accepted.elements e) (type_file_places_short long s es due.accepted.elements e)
          where
            by_content : (y : Content) → KeepsContent names table (Some m) y → ContentIn s y → ShortIn long y → NamesFit s names m.places
            by_content empty w y u p a b = absurd w
            by_content (model g ps n) w y u p a b =
                let q = w.2 in
                subst (IsName s) (place_at_places_of names m.places (p - 1) (omega arith))
                (rw q.names_hold (name_at_lem s long (offered_range _ due.accepted.legible.offered).1 ps y.places u (p - 1) (omega (arith, q.counted))))

        is_model : (y : Content) → KeepsContent names table (Some m) y → (g : Group) × (ps : List Place) × (n : ℕ) × (model g ps n ≡ y) × KeepsModel names table m g ps
        is_model empty w = absurd w
        is_model (model g ps n) w = (g, ps, n, refl, w.2)

        pub rows_due : RowsDue table e m.places R
        rows_due =
            let (g, ps, n, q, k) = is_model (content_of es e) keeps_model in
            record {
              element = few;
              few = k.places_in_lem;
              len = due.filled.rows_len;
              required = λ u l. omega (arith, k.says.required u (omega (arith, k.sized)), required_size g k.numbered u, k.sized, k.places_in_lem);
            }

      -- With the facts of the record put.
      module _ (G : List ℕ) (put : FactsPut elements lists e F G) where
        tags : TagsPut (element_at es k) (content_of es e) e F G
        tags = tags_put G put

        -- It is EMPTY.
        is_empty : (y : Content) → KeepsContent names table None y → empty ≡ y
        is_empty empty w = refl
        is_empty (model g ps n) w = absurd w

        pub element_empty : d.model ≡ None → (i : ℕ) → i ≡ row_at e 0 → Filled s es (set R i 1) P G M (e + 1)
        element_empty z i at =
            let h = due.filled in
            let q = is_empty (content_of es e) (subst (λ (o : Option Model). KeepsContent names table o (content_of es e)) z keeps) in
            rw at (filled_more long s es due.accepted.elements e false R P F M h (set R (row_at e 0) 1) G P G G M
            (subst (λ (y : Content). RowsFor y false e R (set R (row_at e 0) 1)) q (rows_empty e R few h.rows_len h.rows_rest))
            tags
            (subst (λ (y : Content). PlacesPut s es (places_in y) e P G P G (length (places_in y) + 1)) q
            (places_none long s es due.accepted.elements [] e P G h.places_len tags.len (λ j a b. tags.under j b ∙ h.facts_rest j a)))
            (largest_same e G tags.len)
            (members_same s (content_of es e) e M h.lent (subst PlainIn q tt)))

        -- A model, without "&" or with.
        module _ (m : Model) (has : d.model ≡ Some m) where
          pub places_due : PlacesDue s names P G e m.places
          places_due =
              record {
                element = few;
                few = places_few m has;
                fit = names_fit m has;
                places_len = due.filled.places_len;
                facts_len = tags.len;
                blank = λ j a b. tags.under j b ∙ due.filled.facts_rest j a;
              }

          by_rows : (b : Bool) (R' P' H F' M' : List ℕ) → RowsPut table e (cond b RAISE 0) R R' (m.places + 1) → PlacesPut s es (places_of names m.places) e P G P' H (m.places + 1)
              → LargestPut b e H F' CONTENTS → MembersPut s (content_of es e) b e M M' → Filled s es R' P' F' M' (e + 1)
          by_rows b R' P' H F' M' r w f put =
              let (g, ps, n, q, k) = is_model m has (content_of es e) (keeps_model m has) in
              filled_more long s es due.accepted.elements e b R P F M due.filled R' G P' H F' M'
              (subst (λ (y : Content). RowsFor y b e R R') q (rows_model table g ps n e b R R' k.says (k.sized ∙ k.counted) (omega (arith, k.sized, k.places_in_lem)) (rw (← k.counted) r)))
              tags
              (subst (λ (y : Content). PlacesPut s es (places_in y) e P G P' H (length (places_in y) + 1)) q (rw (← k.counted, ← k.names_hold) w))
              f
              put

          pub element_plain : m.and ≡ false → (R' P' F' : List ℕ) → RowsPut table e 0 R R' (m.places + 1) → PlacesPut s es (places_of names m.places) e P G P' F' (m.places + 1)
              → Filled s es R' P' F' M (e + 1)
          element_plain none R' P' F' r w =
              let (g, ps, n, q, k) = is_model m has (content_of es e) (keeps_model m has) in
              by_rows false R' P' F' F' M r w (largest_same e F' w.facts_len) (members_same s (content_of es e) e M due.filled.lent (subst PlainIn q (k.plain none)))

          told : (M' : List ℕ) → length M' ≡ length M → Linked (filled M e table m.code) e M' → MembersPut s (content_of es e) true e M M'
          told M' len is =
              let read = due.accepted.elements in
              let (g, ps, n, q, k) = is_model m has (content_of es e) (keeps_model m has) in
              let guarded : Guarded g = subst GuardedIn (sym q) (content_guarded es (type_file_guarded long s es read due.accepted.unrepeated) e) in
              let (sized, total, plain) = type_file_members long s es read e (sym q) in
              let small : size g ≤ GRPGTCNT = omega (arith, k.sized, k.places_in_lem) in
              let put =
              members_put s M M' table e m.code g due.filled.lent (omega (arith, few)) due.filled.members_rest k.room k.spelled k.says.next k.numbered guarded sized small total plain len is in
              record {
                lent = lent_still s M M' len due.filled.lent;
                len = len;
                under = λ k l. put.others k (inl l);
                over = λ k l. put.others k (inr l);
                plain = λ x. absurd (true≢false x);
                told = λ x. subst (TellsIn M' e) q (put.told, λ u i. let range = has_range g 1 k.numbered u i in omega (arith, range.1));
              }

          pub element_among : (R' P' H F' M' : List ℕ) → RowsPut table e RAISE R R' (m.places + 1) → PlacesPut s es (places_of names m.places) e P G P' H (m.places + 1)
              → LargestPut true e H F' CONTENTS → length M' ≡ length M → Linked (filled M e table m.code) e M' → Filled s es R' P' F' M' (e + 1)
          element_among R' P' H F' M' r w f len is = by_rows true R' P' H F' M' r w f (told M' len is)
