-- Laws of what is kept as a model grows: by an occurrence indicator, or a group that is joined.
use Rattle.std.specs.Prelude.{ℕ, ◌+◌, ◌*◌, ◌≤◌, ◌<◌, ◌≡◌, refl, true, false, List, [], ◌∷◌, ◌++◌, length, eqb}
use Rattle.std.proofs.Common.{sym, ap, ◌∙◌, append_assoc, arith}
use borrow.Author.Tests.{eq-eqb, ne_eqb}
use Rattle.model_code.specs.Codes.{ALSO_CODE, ALT_CODE, OPT_CODE, PLUS_CODE, SEQ_CODE}
use Rattle.layout.specs.Sizes.{CODE, POSITIONS}
use Rattle.rules.specs.Bytes.{byte_at, AND, GRPGTCNT, OPT, PLUS, REP, SEQ}
use Rattle.rules.specs.Walk.{Group, opt, plus, star}
use Rattle.rules.specs.TypeFile.{Tokens, occurrence, earlier}
use Rattle.text.specs.Words.{byte_is_in}
use Rattle.model_sets.specs.Sets.{size, Numbered}
use Rattle.model_links.specs.Behind.{Behind}
use Rattle.model_table.specs.declared.Part.{Part}
use Rattle.model_table.specs.Fill.{part, part_of, part_seq, part_alt, part_and, join_seq, join_and, repeated}
use Rattle.model_table.specs.Shows.{Filled, shows_same}
use Rattle.model_table.specs.Shows as means
use Rattle.model_table.specs.Behind.{repeated_behind}
use Rattle.model_code.specs.Six.{put_code, code_next}
use Rattle.model_code.specs.Spelled.{codes, code_in, code_same, put_next, put_rows, put_length, code_put}
use Rattle.connectors.specs.declared.Model.{Model}
use Rattle.connectors.specs.Kept.{begun, Ready, Tabled, Joins, Keeps, join_part, join_rows, join_number, join_model, join_table}

pub joins_one : (g : Group) → Joins 1 0 g
joins_one g = record { few = omega arith; alone = λ e. refl; some = λ e. absurd (omega arith); whole = λ e. absurd (omega arith); members = λ e. absurd (omega arith) }

-- The table has its code behind the rows.
module _ (lo : ℕ) (T : List ℕ) (n : ℕ) where
  -- What is ready where less is due is ready where more is due.
  pub ready_more : {d e : ℕ} → e ≤ d → Ready (begun lo T n e) → Ready (begun lo T n d)
  ready_more h r = record { len = r.len; owed = omega (arith, r.owed) }

  pub tabled_less : {d e τ c : ℕ} {g : Group} {own table : List ℕ} → e ≤ d → Tabled (begun lo T n d) g own τ table c → Tabled (begun lo T n e) g own τ table c
  tabled_less h x = record { filled = x.filled; code_holds = x.code_holds; room = omega (arith, x.room) }

  -- The code has one number more, behind a table that says g.
  pub tabled_put : (d τ c op : ℕ) (g : Group) (own S : List ℕ) → Ready (begun lo T n d) → lo + size g ≤ POSITIONS → τ ≤ GRPGTCNT
      → Filled g lo T S → code_in S c ≡ code_in T n ++ own → c + (d + 1) ≤ n + 2 + 4 * τ → Tabled (begun lo T n d) g (own ++ op ∷ []) τ (put_code S c op) (code_next c)
  tabled_put d τ c op g own S ready to few f h r =
      let room : c < CODE = omega (arith, ready.owed) in
      let next = put_next S c op room in
      record {
        filled = shows_same (put_code S c op) (omega arith) to (put_length S c op room ∙ f.len) (put_rows S c op room) f;
        code_holds = code_put S c op room f.len ∙ ap (λ (l : List ℕ). l ++ op ∷ []) h ∙ append_assoc (code_in T n) own (op ∷ []);
        room = omega arith;
      }

  -- The code has one number more where the rows were changed before.
  pub tabled_on : (d τ c op : ℕ) (g : Group) (own R S : List ℕ) → Ready (begun lo T n d) → lo + size g ≤ POSITIONS → τ ≤ GRPGTCNT
      → Filled g lo T S → Behind R S → code_in R c ≡ code_in T n ++ own → c + (d + 1) ≤ n + 2 + 4 * τ → Tabled (begun lo T n d) g (own ++ op ∷ []) τ (put_code S c op) (code_next c)
  tabled_on d τ c op g own R S ready to few f b h r = tabled_put d τ c op g own S ready to few f (code_same R S b.same c ∙ h) r

-- An occurrence indicator changes one group.

abbrev pub grouped : Group → (at repeated : ℕ) → Tokens → Tokens
grouped g at n t = record { group = g; at = at; places = t.places; tokens = t.tokens; and = t.and; repeated = n }

module _ (s : List ℕ) (t : Tokens) where
  occurrence_opt : byte_at s t.at ≡ OPT → occurrence s t ≡ grouped (opt t.group) (t.at + 1) t.repeated t
  unfolding occurrence
  occurrence_opt e = rw (eq-eqb _ _ e, occurrence)

  occurrence_plus : (byte_at s t.at ≡ OPT → ⊥) → byte_at s t.at ≡ PLUS → occurrence s t ≡ grouped (plus t.group) (t.at + 1) t.and t
  unfolding occurrence
  occurrence_plus d e = rw (ne_eqb _ _ d, eq-eqb _ _ e, occurrence)

  occurrence_star : (byte_at s t.at ≡ OPT → ⊥) → (byte_at s t.at ≡ PLUS → ⊥) → byte_at s t.at ≡ REP → occurrence s t ≡ grouped (star t.group) (t.at + 1) t.and t
  unfolding occurrence
  occurrence_star c d e = rw (ne_eqb _ _ c, ne_eqb _ _ d, eq-eqb _ _ e, occurrence)

  occurrence_none : (byte_at s t.at ≡ OPT → ⊥) → (byte_at s t.at ≡ PLUS → ⊥) → (byte_at s t.at ≡ REP → ⊥) → occurrence s t ≡ t
  unfolding occurrence
  occurrence_none c d e = rw (ne_eqb _ _ c, ne_eqb _ _ d, ne_eqb _ _ e, occurrence)

-- What the code keeps of a group that goes on as another.
abbrev pub gone_on : Model → (at : ℕ) → Part → (code repeated : ℕ) → Model
gone_on m at p c q = record { at = at; places = m.places; tokens = m.tokens; part = p; code = c; and = m.and; repeated = q }

-- A group with "?" behind it, and one with "+", where that ends at `end`, as the code does it.
abbrev pub opt_model : (end : ℕ) → Model → Model
opt_model end m = gone_on m end (part true 0) (code_next m.code) m.repeated

abbrev pub opt_table : Model → List ℕ → List ℕ
opt_table m T = put_code T m.code OPT_CODE

abbrev pub plus_model : (end : ℕ) → Model → Model
plus_model end m = gone_on m end m.part (code_next m.code) m.and

abbrev pub plus_table : (lo : ℕ) → Model → List ℕ → List ℕ
plus_table lo m T = put_code (repeated T lo (m.places + 1)) m.code PLUS_CODE

-- A model goes on: another group of as many places, and another end.
module _ (end lo : ℕ) (T : List ℕ) (n d k joint : ℕ) (names table table' : List ℕ) (m : Model) (t : Tokens) (K : Keeps end (begun lo T n d) k joint names table m t) where
  pub keeps_on : (e : ℕ) (g : Group) (a b : ℕ) (p : Part) (c q r : ℕ) → a ≡ b → b ≤ end → p ≡ part_of g → q ≡ r
      → (Ready (begun lo T n e) → Tabled (begun lo T n e) g (codes g) t.tokens table' c) → Numbered g lo → size g ≡ size t.group
      → Keeps end (begun lo T n e) 1 0 names table' (gone_on m a p c q) (grouped g b r t)
  keeps_on e g a b p c q r is h x y f i z = record {
    at = is;
    places = K.places;
    tokens = K.tokens;
    part = x;
    and_at = K.and_at;
    repeated_at = y;
    names_hold = K.names_hold;
    tabled = f;
    joins = joins_one g;
    from = K.from;
    numbered = i;
    counted = omega arith;
    at_in = h;
    places_in_lem = K.places_in_lem;
    tokens_in_lem = K.tokens_in_lem;
  }

  pub last_place : lo + size t.group ≤ POSITIONS
  last_place = omega (arith, K.counted, K.places_in_lem, K.tokens_in_lem)

  next_place : m.places + 1 ≡ lo + size t.group
  next_place = omega arith

-- A model of which less is due.
pub keeps_less : (end lo : ℕ) (T : List ℕ) (n d e k joint : ℕ) (names table : List ℕ) (m : Model) (t : Tokens) → e ≤ d → Keeps end (begun lo T n d) k joint names table m t → Keeps end (begun lo T n e) k joint names table m t
keeps_less end lo T n d e k joint names table m t h K = record {
  at = K.at;
  places = K.places;
  tokens = K.tokens;
  part = K.part;
  and_at = K.and_at;
  repeated_at = K.repeated_at;
  names_hold = K.names_hold;
  tabled = λ r. tabled_less lo T n h (K.tabled (ready_more lo T n h r));
  joins = K.joins;
  from = K.from;
  numbered = K.numbered;
  counted = K.counted;
  at_in = K.at_in;
  places_in_lem = K.places_in_lem;
  tokens_in_lem = K.tokens_in_lem;
}

-- The group is repeated.
module _ (lo : ℕ) (T : List ℕ) (n d τ c : ℕ) (table table' : List ℕ) (g : Group) (from : 1 ≤ lo) (to : lo + size g ≤ POSITIONS) (few : τ ≤ GRPGTCNT) (gn : Numbered g lo) (hi : ℕ) (H : hi ≡ lo + size g) (r : table' ≡ repeated table lo hi)
    (ready : Ready (begun lo T n d)) where
  again : Filled g lo T table → Filled (plus g) lo T table'
  again f = rw (r, H) (means.repeats g lo from to gn T table f)

  pub tabled_plus : Tabled (begun lo T n (d + 1)) g (codes g) τ table c → Tabled (begun lo T n d) (plus g) (codes (plus g)) τ (put_code table' c PLUS_CODE) (code_next c)
  tabled_plus x =
      let b : Behind table table' = rw (r, H) (repeated_behind table lo (lo + size g) (omega arith) to) in
      tabled_on lo T n d τ c PLUS_CODE (plus g) (codes g) table table' ready to few (again x.filled) b x.code_holds x.room

-- So an occurrence indicator, or none, at the byte b.
module _ (s : List ℕ) (lo : ℕ) (T : List ℕ) (n d : ℕ) (names table : List ℕ) (m : Model) (t : Tokens) (K : Keeps (length s) (begun lo T n (d + 2)) 1 0 names table m t) (b : ℕ) (B : b ≡ byte_at s m.at) where
  the_byte : byte_at s t.at ≡ b
  the_byte = ap (byte_at s) (sym K.at) ∙ sym B

  is : (x : ℕ) → b ≡ x → byte_at s t.at ≡ x
  is x e = the_byte ∙ e

  not : (x : ℕ) → (b ≡ x → ⊥) → byte_at s t.at ≡ x → ⊥
  not x e f = e (sym the_byte ∙ f)

  at_after : (x : ℕ) → b ≡ x → 0 < x → t.at + 1 ≤ length s
  at_after x e h = omega (arith, byte_is_in s t.at x (is x e) h)

  before : Ready (begun lo T n d) → Tabled (begun lo T n (d + 2)) t.group (codes t.group) t.tokens table m.code
  before r = K.tabled (ready_more lo T n (omega arith) r)

  plus_tabled : (e : ℕ) → e + 1 ≤ d + 2 → Ready (begun lo T n d) → Ready (begun lo T n e) → Tabled (begun lo T n e) (plus t.group) (codes (plus t.group)) t.tokens (plus_table lo m table) (code_next m.code)
  plus_tabled e h a i =
      tabled_plus lo T n e t.tokens m.code table (repeated table lo (m.places + 1)) t.group K.from (last_place _ lo T n (d + 2) 1 0 names table table m t K) K.tokens_in_lem K.numbered (m.places + 1) (next_place _ lo T n (d + 2) 1 0 names table table m t K) refl i (tabled_less lo T n h (before a))

  module _ {r : Model} {table' : List ℕ} where
    pub occurs_opt : b ≡ OPT → r ≡ opt_model (m.at + 1) m → table' ≡ opt_table m table → Keeps (length s) (begun lo T n d) 1 0 names table' r (occurrence s t)
    occurs_opt e f g =
        rw (occurrence_opt s t (is OPT e), f, g)
        (keeps_on _ lo T n (d + 2) 1 0 names table (opt_table m table) m t K d (opt t.group) _ _ _ _ _ _ (ap (λ (n : ℕ). n + 1) K.at) (at_after OPT e (omega arith)) refl K.repeated_at
        (λ r. let x = before r in tabled_put lo T n d t.tokens m.code OPT_CODE (opt t.group) (codes t.group) table r (last_place _ lo T n (d + 2) 1 0 names table table m t K) K.tokens_in_lem x.filled x.code_holds (omega (arith, x.room)))
        K.numbered refl)

    pub occurs_plus : (b ≡ OPT → ⊥) → b ≡ PLUS → r ≡ plus_model (m.at + 1) m → table' ≡ plus_table lo m table → Keeps (length s) (begun lo T n d) 1 0 names table' r (occurrence s t)
    occurs_plus x e f g =
        rw (occurrence_plus s t (not OPT x) (is PLUS e), f, g)
        (keeps_on _ lo T n (d + 2) 1 0 names table (plus_table lo m table) m t K d (plus t.group) _ _ _ _ _ _ (ap (λ (n : ℕ). n + 1) K.at) (at_after PLUS e (omega arith)) K.part K.and_at
        (λ a. plus_tabled d (omega arith) a a) K.numbered refl)

    -- "*" is "+" and then "?".
    pub occurs_star : {some : Model} {once : List ℕ} → (b ≡ OPT → ⊥) → (b ≡ PLUS → ⊥) → b ≡ REP → some ≡ plus_model (m.at + 1) m → once ≡ plus_table lo m table → r ≡ opt_model (m.at + 1) some → table' ≡ opt_table some once
        → Keeps (length s) (begun lo T n d) 1 0 names table' r (occurrence s t)
    occurs_star x y e f g h i =
        let S : List ℕ = plus_table lo m table in
        rw (occurrence_star s t (not OPT x) (not PLUS y) (is REP e), h, i, f, g)
        (keeps_on _ lo T n (d + 2) 1 0 names table (put_code S (code_next m.code) OPT_CODE) m t K d (star t.group) _ _ _ _ _ _ (ap (λ (n : ℕ). n + 1) K.at) (at_after REP e (omega arith)) refl K.and_at
        (λ a.
        let z = plus_tabled (d + 1) (omega arith) a (ready_more lo T n (omega arith) a) in
        tabled_put lo T n d t.tokens (code_next m.code) OPT_CODE (star t.group) (codes (plus t.group)) S a (last_place _ lo T n (d + 2) 1 0 names table table m t K) K.tokens_in_lem z.filled z.code_holds z.room)
        K.numbered refl)

  pub occurs_not : (b ≡ OPT → ⊥) → (b ≡ PLUS → ⊥) → (b ≡ REP → ⊥) → Keeps (length s) (begun lo T n d) 1 0 names table m (occurrence s t)
  occurs_not x y z = rw (occurrence_none s t (not OPT x) (not PLUS y) (not REP z)) (keeps_less (length s) lo T n (d + 2) d 1 0 names table m t (omega arith) K)

-- Two groups are joined by a connector.

-- What the code makes of the connector: the part that is kept, where the "&" stands that it is, or that the
-- second has, and its number in the code.
module _ (b i lo : ℕ) (m u : Model) (T R : List ℕ) (v : Part × ℕ × ℕ) where
  abbrev Joint : Type 0
  Joint = (v ≡ (join_part b m.part u.part, (elim (eqb b AND) [ true ↦ i | false ↦ u.and ]), join_number b)) × (R ≡ join_rows b lo m u T)

  pub by_seq : (p : Part) → b ≡ SEQ → v ≡ (p, u.and, SEQ_CODE) → p ≡ part_seq m.part u.part → R ≡ join_seq T lo (m.places + 1) (u.places + 1) m.part u.part → Joint
  by_seq p e q f g = (rw (q, e, f) refl, rw e g)

  pub by_and : (p : Part) → b ≡ AND → v ≡ (p, i, ALSO_CODE) → p ≡ part_and m.part u.part → R ≡ join_and T lo (m.places + 1) (u.places + 1) → Joint
  by_and p e q f g = (rw (q, e, f) refl, rw e g)

  pub by_alt : (p : Part) → (b ≡ SEQ → ⊥) → (b ≡ AND → ⊥) → v ≡ (p, u.and, ALT_CODE) → p ≡ part_alt m.part u.part → R ≡ T → Joint
  by_alt p d e q f g = (rw (q, ne_eqb b SEQ d, ne_eqb b AND e, f) refl, rw (ne_eqb b SEQ d, ne_eqb b AND e) g)

  -- So the two are joined.
  pub both_joined : (S : List ℕ) (c a r : ℕ) → Joint → S ≡ put_code R u.code v.2 → c ≡ code_next u.code → a ≡ earlier m.and v.1 → r ≡ earlier m.repeated u.repeated
      → (record { at = u.at; places = u.places; tokens = u.tokens; part = v.0; code = c; and = a; repeated = r } ≡ join_model b i m u) × (S ≡ join_table b lo m u T)
  both_joined S c a r (e, g) h k l x = (rw (k, l, x, e) refl, rw (h, g, e) refl)
