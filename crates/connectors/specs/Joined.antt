-- Laws of two groups that are joined by a connector: what is kept of each makes what is kept of both.
use Rattle.std.specs.Prelude.{ℕ, ◌+◌, ◌*◌, ◌≤◌, ◌<◌, ◌≡◌, refl, true, ◌||◌, ◌⊎◌, List, [], ◌∷◌, ◌++◌, eqb}
use Rattle.std.proofs.Common.{sym, ap, ap₂, subst, ◌∙◌, inl, inr, ⊎_elim, append_assoc, arith, eqb-true, ne_eqb, le-leb}
use Rattle.std.proofs.lemmas.Bool.{lt-leb}
use Rattle.model_code.specs.Codes.{ALSO_CODE, ALT_CODE, SEQ_CODE}
use Rattle.rules.specs.Walk.{Group, seq, alt, and, Members, one, also}
use Rattle.rules.specs.TypeFile.{Tokens, is_connector, members_of, earlier, join_tokens}
use Rattle.rules.specs.Bytes.{AND, GRPCNT, OR, SEQ}
use Rattle.layout.specs.Sizes.{POSITIONS}
use Rattle.basic_laws.specs.Truth.{or_cases}
use Rattle.model_sets.specs.Sets.{size, size_m, Numbered, NumberedM, amount}
use Rattle.model_links.specs.Behind.{Behind, behind_none}
use Rattle.model_table.specs.declared.Part.{Part}
use Rattle.model_table.specs.Fill.{part_of, part_seq, part_alt, part_and, join_seq, join_and}
use Rattle.model_table.specs.Shows.{Filled, both, sequence, any_order}
use Rattle.model_table.specs.Behind.{seq_behind, and_behind}
use Rattle.model_code.specs.Six.{put_code, code_next}
use Rattle.model_code.specs.Spelled.{codes, codes_m, code_in}
use Rattle.connectors.specs.declared.Model.{Model}
use Rattle.connectors.specs.Kept.{begun, Ready, Tabled, spelt, Joins, Keeps, join_model, join_table}
use Rattle.connectors.specs.Grown.{tabled_on}
use Rattle.model_sets.specs.Numbering.{amount_one}

-- Which connectors there are.
pub connector_is : (b : ℕ) → is_connector b ≡ true → (b ≡ SEQ) ⊎ ((b ≡ OR) ⊎ (b ≡ AND))
connector_is b e =
    or_cases (eqb b SEQ || eqb b OR) (eqb b AND)
    (or_cases (eqb b SEQ) (eqb b OR) (λ x. inl (eqb-true b SEQ x)) (λ x. inr (inl (eqb-true b OR x))))
    (λ x. inr (inr (eqb-true b AND x))) e

-- The members M are what the "&" group that goes on has so far, where the group g of k content tokens was read.
record Whole (lo k joint : ℕ) (T table : List ℕ) (g : Group) (M : Members) : Type 0 where
  numbered : NumberedM M lo
  filled : Filled g lo T table → Filled (and M) lo T table
  sized : size_m M ≡ size g
  parted : part_of (and M) ≡ part_of g
  spelled : spelt joint g ≡ codes_m M
  counted : amount M ≡ k

module _ (lo k joint : ℕ) (T table : List ℕ) (g : Group) (gn : Numbered g lo) (j : Joins k joint g) where
  whole_one : joint ≡ 0 → Whole lo k joint T table g (one g)
  whole_one z = record { numbered = gn; filled = λ f. f; sized = refl; parted = refl; spelled = rw z; counted = sym (j.alone z) }

  whole_more : joint ≡ AND → Whole lo k joint T table g (members_of g)
  whole_more z =
      let e = j.whole z in
      record {
        numbered = subst (λ (h : Group). Numbered h lo) e gn;
        filled = λ f. subst (λ (h : Group). Filled h lo T table) e f;
        sized = sym (ap size e);
        parted = sym (ap part_of e);
        spelled = rw z;
        counted = j.members z;
      }

module _ (end lo : ℕ) (T : List ℕ) (n d k joint : ℕ) (names table names' table' : List ℕ) (m u : Model) (t w : Tokens)
    (K : Keeps end (begun lo T n d) k joint names table m t) (L : Keeps end (begun (m.places + 1) table m.code (4 * m.tokens + 3)) 1 0 names' table' u w) (few : k < GRPCNT) where
  mid : m.places + 1 ≡ lo + size t.group
  mid = omega (arith, K.places, K.counted)

  hi : u.places + 1 ≡ lo + size t.group + size w.group
  hi = omega (arith, mid, L.places, L.counted)

  to : lo + size t.group + size w.group ≤ POSITIONS
  to = omega (arith, hi, L.places, L.places_in_lem, L.tokens_in_lem)

  second : Numbered w.group (lo + size t.group)
  second = subst (λ (x : ℕ). Numbered w.group x) mid L.numbered

  -- The table after both, before they are joined.
  module _ (ready : Ready (begun lo T n d)) where
    first_tabled : Tabled (begun lo T n d) t.group (spelt joint t.group) t.tokens table m.code
    first_tabled = K.tabled ready

    ready_second : Ready (begun (m.places + 1) table m.code (4 * m.tokens + 3))
    ready_second =
        record {
          len = first_tabled.filled.len;
          owed = omega (arith, first_tabled.room, ready.owed, K.tokens);
        }

    second_tabled : Tabled (begun (m.places + 1) table m.code (4 * m.tokens + 3)) w.group (codes w.group) w.tokens table' u.code
    second_tabled = L.tabled ready_second

    second_filled : Filled w.group (lo + size t.group) table table'
    second_filled = subst (λ (x : ℕ). Filled w.group x table table') mid second_tabled.filled

    both_code : code_in table' u.code ≡ code_in T n ++ (spelt joint t.group ++ codes w.group)
    both_code = second_tabled.code_holds ∙ ap (λ (l : List ℕ). l ++ codes w.group) first_tabled.code_holds ∙ append_assoc (code_in T n) (spelt joint t.group) (codes w.group)

    joined_tabled : (j : Group) (R own : List ℕ) (op : ℕ) → lo + size j ≤ POSITIONS → spelt joint t.group ≡ own → Filled j lo T R → Behind table' R
        → Tabled (begun lo T n d) j (own ++ (codes w.group ++ op ∷ [])) w.tokens (put_code R u.code op) (code_next u.code)
    joined_tabled j R own op l e f b =
        subst (λ (os : List ℕ). Tabled (begun lo T n d) j os w.tokens (put_code R u.code op) (code_next u.code))
        (append_assoc own (codes w.group) (op ∷ []))
        (tabled_on lo T n d w.tokens u.code op j (own ++ codes w.group) table' R ready l L.tokens_in_lem f b
        (both_code ∙ ap (λ (os : List ℕ). code_in T n ++ (os ++ codes w.group)) e)
        (omega (arith, first_tabled.room, second_tabled.room, K.tokens)))

  -- What is kept of a group of as many places as both have.
  whole : (b : ℕ) (j : Group) (p : Part) (S : List ℕ) (a a' : ℕ) → p ≡ part_of j → a ≡ a' → Numbered j lo → size j ≡ size t.group + size w.group → Joins (k + 1) b j
      → (Ready (begun lo T n d) → Tabled (begun lo T n d) j (spelt b j) w.tokens S (code_next u.code))
      → Keeps end (begun lo T n d) (k + 1) b names' S (record { at = u.at; places = u.places; tokens = u.tokens; part = p; code = code_next u.code; and = a; repeated = earlier m.repeated u.repeated })
      (record { group = j; at = w.at; places = w.places; tokens = w.tokens; and = a'; repeated = earlier t.repeated w.repeated })
  whole b j p S a a' q i x y z f = record {
    at = L.at;
    places = L.places;
    tokens = L.tokens;
    part = q;
    and_at = i;
    repeated_at = rw (K.repeated_at, L.repeated_at);
    names_hold = L.names_hold;
    tabled = f;
    joins = z;
    from = K.from;
    numbered = x;
    counted = omega (arith, mid, L.counted);
    at_in = L.at_in;
    places_in_lem = L.places_in_lem;
    tokens_in_lem = L.tokens_in_lem;
  }

  joins_other : (b : ℕ) (j : Group) → (b ≡ 0 → ⊥) → (b ≡ AND → ⊥) → Joins (k + 1) b j
  joins_other b j x y = record { few = omega arith; alone = λ e. absurd (x e); some = λ e. absurd (y e); whole = λ e. absurd (y e); members = λ e. absurd (y e) }

  ands : earlier m.and u.and ≡ earlier t.and w.and
  ands = rw (K.and_at, L.and_at)

  join_seq_lem : (i : ℕ) → spelt joint t.group ≡ codes t.group → Keeps end (begun lo T n d) (k + 1) SEQ names' (join_table SEQ lo m u table') (join_model SEQ i m u) (join_tokens k SEQ i t w)
  join_seq_lem i e =
      let R : List ℕ = join_seq table' lo (m.places + 1) (u.places + 1) m.part u.part in
      let is : R ≡ join_seq table' lo (lo + size t.group) (lo + size t.group + size w.group) (part_of t.group) (part_of w.group) = rw (mid, hi, K.part, L.part) in
      whole SEQ (seq t.group w.group) (part_seq m.part u.part) (put_code R u.code SEQ_CODE) _ _ (rw (K.part, L.part)) ands (K.numbered, second) refl (joins_other SEQ _ (λ x. omega arith) (λ x. omega arith))
      (λ ready.
      joined_tabled ready (seq t.group w.group) R (codes t.group) SEQ_CODE (omega (arith, to)) e
      (rw is
      (sequence t.group w.group lo K.from to K.numbered second T table'
      (both t.group w.group lo K.from to K.numbered second T table table' (first_tabled ready).filled (second_filled ready))))
      (rw is (seq_behind table' lo (lo + size t.group) (lo + size t.group + size w.group) (omega arith) (omega arith) to (part_of t.group) (part_of w.group))))

  join_alt : (i : ℕ) → spelt joint t.group ≡ codes t.group → Keeps end (begun lo T n d) (k + 1) OR names' (join_table OR lo m u table') (join_model OR i m u) (join_tokens k OR i t w)
  join_alt i e =
      whole OR (alt t.group w.group) (part_alt m.part u.part) (put_code table' u.code ALT_CODE) _ _ (rw (K.part, L.part)) ands (K.numbered, second) refl (joins_other OR _ (λ x. omega arith) (λ x. omega arith))
      (λ ready.
      joined_tabled ready (alt t.group w.group) table' (codes t.group) ALT_CODE (omega (arith, to)) e
      (both t.group w.group lo K.from to K.numbered second T table table' (first_tabled ready).filled (second_filled ready))
      behind_none)

  -- The group has one member more.
  join_and_lem : (i : ℕ) (M : Members) → Whole lo k joint T table t.group M
      → Keeps end (begun lo T n d) (k + 1) AND names' (join_table AND lo m u table') (join_model AND i m u)
      (record { group = and (also M w.group); at = w.at; places = w.places; tokens = w.tokens; and = earlier t.and i; repeated = earlier t.repeated w.repeated })
  join_and_lem i M h =
      let R : List ℕ = join_and table' lo (m.places + 1) (u.places + 1) in
      let z = h.sized in
      let is : R ≡ join_and table' lo (lo + size_m M) (lo + size_m M + size w.group) = rw (z, mid, hi) in
      let hn : Numbered w.group (lo + size_m M) = rw z second in
      let last : lo + size_m M + size w.group ≤ POSITIONS = omega (arith, to) in
      whole AND (and (also M w.group)) (part_and m.part u.part) (put_code R u.code ALSO_CODE) _ _ (ap₂ part_and (K.part ∙ sym h.parted) L.part) (rw K.and_at) (h.numbered, hn) (omega arith)
      (record { few = omega arith; alone = λ e. absurd (omega arith); some = λ e. omega (arith, amount_one M, h.counted); whole = λ e. refl; members = λ e. omega (arith, h.counted) })
      (λ ready.
      joined_tabled ready (and (also M w.group)) R (codes_m M) ALSO_CODE (omega arith) h.spelled
      (rw is
      (any_order (and M) w.group lo K.from last h.numbered hn T table'
      (both (and M) w.group lo K.from last h.numbered hn T table table' (h.filled (first_tabled ready).filled) (rw z (second_filled ready)))))
      (rw is (and_behind table' lo (lo + size_m M) (lo + size_m M + size w.group) (omega arith) (omega arith) last)))

  -- Two groups are joined by any connector that may stand there.
  pub join_kept : (b i : ℕ) → is_connector b ≡ true → (eqb joint 0 || eqb joint b) ≡ true → Keeps end (begun lo T n d) (k + 1) b names' (join_table b lo m u table') (join_model b i m u) (join_tokens k b i t w)
  join_kept b i c j = ⊎_elim by_seq (λ x. ⊎_elim by_alt by_and x) (connector_is b c)
    where
      other : (x : ℕ) → b ≡ x → (x ≡ AND → ⊥) → spelt joint t.group ≡ codes t.group
      other x e ne = or_cases (eqb joint 0) (eqb joint b) (λ y. rw (eqb-true joint 0 y)) (λ y. rw (eqb-true joint b y, e, ne_eqb x AND ne)) j

      by_seq : b ≡ SEQ → Keeps end (begun lo T n d) (k + 1) b names' (join_table b lo m u table') (join_model b i m u) (join_tokens k b i t w)
      by_seq e = rw e (join_seq_lem i (other SEQ e (λ x. omega arith)))

      by_alt : b ≡ OR → Keeps end (begun lo T n d) (k + 1) b names' (join_table b lo m u table') (join_model b i m u) (join_tokens k b i t w)
      by_alt e = rw e (join_alt i (other OR e (λ x. omega arith)))

      by_and : b ≡ AND → Keeps end (begun lo T n d) (k + 1) b names' (join_table b lo m u table') (join_model b i m u) (join_tokens k b i t w)
      by_and e =
          or_cases (eqb joint 0) (eqb joint b)
          (λ y.
          let z = eqb-true joint 0 y in
          rw (e, le-leb k 1 (omega (arith, K.joins.alone z))) (join_and_lem i (one t.group) (whole_one lo k joint T table t.group K.numbered K.joins z)))
          (λ y.
          let z : joint ≡ AND = eqb-true joint b y ∙ e in
          rw (e, lt-leb k 1 (omega (arith, K.joins.some z))) (join_and_lem i (members_of t.group) (whole_more lo k joint T table t.group K.numbered K.joins z)))
          j
