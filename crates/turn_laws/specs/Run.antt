-- A run of data settled at once is the run settled byte by byte: after a data byte another fits as the same place.
use Rattle.std.specs.Prelude.{ℕ, zero, suc, ◌+◌, ◌-◌, ◌≤◌, ◌<◌, ◌≡◌, refl, Bool, true, false, ◌&&◌, List, [], ◌∷◌, ◌++◌, length, eqb, ltb}
use Rattle.std.proofs.Common.{sym, ◌∙◌, subst, arith}
use Rattle.std.proofs.Math.Path.{ap}
use Rattle.std.proofs.lemmas.Bool.{false≢true}
use Rattle.std.proofs.Math.Bool.{and-false}
use borrow.Author.Tests.{le-leb, le-ltb, ne_eqb, eq-eqb}
use Rattle.rules.specs.Settings.{Settings, is_second}
use Rattle.rules.specs.Bytes.{byte_at, RE, TAGLVL}
use Rattle.rules.specs.Reading.{Reading, refused, got}
use Rattle.rules.specs.Walk.{place, last_or0}
use Rattle.rules.specs.TypeFile.{Element}
use Rattle.rules.specs.Judge.{Accepts}
use Rattle.rules.specs.Document.{Piece, start_tag, end_tag, skipped, blank, data_byte, piece}
use Rattle.rules.specs.Elements.{content_of, places_in}
use Rattle.rules.specs.Decisions.{Token, pcdata, has_name, Decisions}
use Rattle.rules.specs.Events.{Event, data_run, with_data}
use Rattle.rules.specs.Settling.{Open, State, fitting, take_token, settle, take_data}
use Rattle.rules.specs.Records.{Line, is_fresh, at_once, is_ignored, taken_behind, line_after}
use Rattle.rules.specs.Reader.{go_on, settle_piece, piece_under}
use Rattle.rules_laws.specs.Holds.{got_so}
use Rattle.rules_laws.specs.Runs.{is_run, runs, run_end, runs_each, run_end_in, any_piece, run_any}
use Rattle.and_laws.specs.Base.{mem, mem_right, mem_head}
use Rattle.and_laws.specs.Taken.{next_from}
use Rattle.and_laws.specs.Begun.{last_or0_snoc}
use Rattle.document_laws.specs.Decide.{search, fits_in, decided}
use Rattle.document_laws.specs.OneReading.{accepted_decided}
use Rattle.document_laws.specs.Moves.{state}
use Rattle.document_laws.specs.Under.{under_blank, under_data, Stands, unchanged, ignored, stands, under_text}
use Rattle.document_laws.specs.Same.{Passes, goes, passes_begun}
use Rattle.type_laws.specs.Pcdata.{pcdata_stays}
use Rattle.turn_laws.specs.RunAtOnce.{take_run, pieces, joins, took, Again}
use Rattle.turn_laws.specs.Again.{again_itself, again_took, again_fits}
use Rattle.turn_laws.specs.Joins.{with_data_new, with_data_more}
use Rattle.turn_laws.specs.Enough.{pieces_stop}
use Rattle.acts.specs.Pieces.{data_settles, blank_settles}
use Rattle.turn_laws.specs.Steps.{settle_fits, take_data_got, Ways, refused_both, taken_both, ways}
use Rattle.turn_laws.specs.Leaves.{Settled, settle_leaves, passes_bottom}

-- In the document itself, which has one place, nothing fits behind that.
document_once : (s : List ℕ) (es : List Element) (t : Token) (taken : List ℕ) → 1 ≤ last_or0 taken → (decided s es).fits 0 taken t ≡ 0
unfolding fits_in search
document_once s es t taken h = by_last (last_or0 taken) h
  where
    no_more : (a : Bool) → ◌≡◌ {A = ℕ} (elim (a && false) [ true ↦ 1 | false ↦ 0 ]) 0
    no_more true = refl
    no_more false = refl

    by_last : (u : ℕ) → 1 ≤ u → search (λ p. has_name s es (places_in (content_of es 0)) t p && next_from (place 1) u (mem taken) p) 1 ≡ 0
    by_last zero h = absurd (omega arith)
    by_last (suc u) h = no_more (has_name s es (places_in (content_of es 0)) t 1)

-- Runs

-- The piece after a run is none of data.
pub runs_stop : (n : ℕ) (d : List ℕ) (i : ℕ) → runs n d i < n → is_run (any_piece d (i + runs n d i)) ≡ false
unfolding runs
runs_stop zero d i h = absurd (omega arith)
runs_stop (suc n) d i h = by_test (is_run (any_piece d i)) refl (runs_stop n d (i + 1))
  where
    by_test : (b : Bool) → is_run (any_piece d i) ≡ b → (runs n d (i + 1) < n → is_run (any_piece d (i + 1 + runs n d (i + 1))) ≡ false) → is_run (any_piece d (i + runs (suc n) d i)) ≡ false
    by_test true e ih =
        let m : runs (suc n) d i ≡ suc (runs n d (i + 1)) = rw (runs, e) in
        let l : i + runs (suc n) d i ≡ i + 1 + runs n d (i + 1) = omega arith in
        rw l (ih (omega arith))
    by_test false e ih =
        let m : runs (suc n) d i ≡ 0 = rw (runs, e) in
        let l : i + runs (suc n) d i ≡ i = omega arith in
        rw l e

pub run_end_stop : (d : List ℕ) (i : ℕ) → i ≤ length d → run_end d i < length d → is_run (any_piece d (run_end d i)) ≡ false
run_end_stop d i l h = runs_stop (length d - i) d i (omega arith)

pub run_cases : {C : Type 0} (r : Reading Piece) → is_run r ≡ true → (r ≡ got blank → C) → (r ≡ got data_byte → C) → C
run_cases (refused n k) e f g = absurd (false≢true e)
run_cases (got (start_tag t)) e f g = absurd (false≢true e)
run_cases (got (end_tag t)) e f g = absurd (false≢true e)
run_cases (got (skipped i)) e f g = absurd (false≢true e)
run_cases (got blank) e f g = f refl
run_cases (got data_byte) e f g = g refl

module _ (c : Settings) (s : List ℕ) (es : List Element) (D : Decisions) where
  -- A piece of a run where data may come next is a data byte.
  module _ (d : List ℕ) (at : ℕ) (l : Line) (z : State) (run : is_run (piece_under c s es d at l z.current) ≡ true) (fits : piece_under c s es d at l z.current ≡ got blank → 1 ≤ fitting s es D z.current pcdata) where
    pub run_settles : (p : Piece) × (piece_under c s es d at l z.current ≡ got p) × (settle_piece s es D d p at z ≡ go_on (at + 1) (take_data s es D at z)) × (line_after s es D d p at l z ≡ taken_behind (at + 1) l)
    unfolding line_after
    run_settles =
        run_cases (piece_under c s es d at l z.current) run (λ e. (blank, e, blank_settles s es D d at z (fits e), rw (line_after, le-leb 1 (fitting s es D z.current pcdata) (fits e))))
        (λ e. (data_byte, e, data_settles s es D d at z, refl))

    pub data_stop : (n k : ℕ) → at < length d → take_data s es D at z ≡ refused n k → pieces c s es D d at l z ≡ refused n k
    data_stop n k h e = let (p, q, i, line) = run_settles in pieces_stop c s es D d at l z h p q n k (i ∙ ap (go_on (at + 1)) e)

-- No byte within a run is ignored at once: the last thing was data, and it stands directly behind that.
pub not_fresh : (o : Open) → 1 ≤ last_or0 o.taken → is_fresh o ≡ false
not_fresh o h = go o.taken h
  where
    go : (ps : List ℕ) → 1 ≤ last_or0 ps → ◌≡◌ {A = Bool} (elim ps [ [] ↦ true | p ∷ qs ↦ false ]) false
    go [] h = absurd (omega arith)
    go (p ∷ ps) h = refl

pub not_ignored : (c : Settings) (d : List ℕ) (i : ℕ) (l : Line) (o : Open) → l.mark ≤ i → is_fresh o ≡ false → is_ignored c d i (taken_behind i l) o ≡ false
unfolding is_ignored at_once
not_ignored c d i l o h f = rw (is_ignored, at_once, le-ltb i l.mark h, f, le-ltb i i (omega arith)) (ap (λ (b : Bool). is_second c && b) (and-false (eqb (byte_at d i) RE)) ∙ and-false (is_second c))

-- So what goes on a run in the text does so there.
pub run_under : (c : Settings) (s : List ℕ) (es : List Element) (d : List ℕ) (i : ℕ) (l : Line) (o : Open) → is_ignored c d i l o ≡ false → is_run (piece c.name_length d i) ≡ true → is_run (piece_under c s es d i l o) ≡ true
run_under c s es d i l o n run = run_cases (piece c.name_length d i) run (λ e. ap is_run (under_blank c s es d i l o e n)) (λ e. ap is_run (under_data c s es d i l o e))

-- And what does so there does so in the text.
pub run_text : (c : Settings) (s : List ℕ) (es : List Element) (d : List ℕ) (i : ℕ) (l : Line) (o : Open) → is_run (piece_under c s es d i l o) ≡ true → is_run (piece c.name_length d i) ≡ true
run_text c s es d i l o run = run_cases (piece_under c s es d i l o) run (λ e. of_text blank refl e) (λ e. of_text data_byte refl e)
  where
    by_stand : (q p : Piece) → Stands c s es d i l o q p → is_run (got p) ≡ true → is_run (got q) ≡ true
    by_stand q p unchanged run = run
    by_stand q p (ignored e) run = refl

    of_text : (p : Piece) → is_run (got p) ≡ true → piece_under c s es d i l o ≡ got p → is_run (piece c.name_length d i) ≡ true
    of_text p run e =
        let u = under_text c s es d i l o e in
        ap is_run u.there ∙ by_stand u.text p (subst (Stands c s es d i l o u.text) u.is (stands c s es d i l o u.text)) run

-- The run

module _ {given : Settings} (c : Settings) (s : List ℕ) (es : List Element) (accepted : Accepts given s es) (d : List ℕ) (at : ℕ) (l : Line) (marked : l.mark ≤ at) (z x : State) (passes : Passes c s es (decided s es) d at l z) (settles : settle s es (decided s es) pcdata at z ≡ got x) (few : ltb TAGLVL (length x.around) ≡ false) where
  abbrev D : Decisions
  D = decided s es

  after : Settled s es D pcdata z.events x
  after = let means = accepted_decided s es accepted in got_so (settle_leaves s es D means pcdata at z (passes_begun s es D means d passes)) settles

  taken : ℕ
  taken = fitting s es D after.place pcdata

  -- The current element has taken data last, and data fits as that place again.
  data_last : last_or0 x.current.taken ≡ taken
  unfolding taken
  data_last = ap (λ (o : Open). last_or0 o.taken) after.current ∙ last_or0_snoc after.place.taken taken

  data_there : mem x.current.taken taken ≡ true
  unfolding taken
  data_there = ap (λ (o : Open). mem o.taken taken) after.current ∙ mem_right after.place.taken (taken ∷ []) taken (mem_head taken [])

  data_fits : fitting s es D x.current pcdata ≡ taken
  unfolding taken
  data_fits =
      let o = after.place in
      ap (λ (v : Open). fitting s es D v pcdata) after.current ∙ pcdata_stays s es accepted o.element after.begun.has o.taken after.begun.begins after.fits

  some : 1 ≤ taken
  unfolding taken
  some = after.fits

  -- So it is no data of the document itself.
  in_element : (v : Open) → Again x.current v → eqb v.element 0 ≡ false
  in_element v a = ne_eqb v.element 0 (λ e. go x.current.element (sym a.element ∙ e) data_fits)
    where
      go : (k : ℕ) → k ≡ 0 → (decided s es).fits k x.current.taken pcdata ≡ taken → ⊥
      go zero e q = omega (arith, q, some, document_once s es pcdata x.current.taken (omega (arith, data_last, some)))
      go (suc k) e q = omega arith

  -- Reading has come to the byte n of the run.
  record Read (n : ℕ) : Type 0 where
    pub current : Open
    pub again : Again x.current current
    pub comes : Passes c s es D d (at + n) (taken_behind (at + n) l) (state current x.around (x.events ++ data_run at n ∷ []))

  -- A byte more, and n more.
  byte_read : (n : ℕ) → at + n < length d → is_run (piece c.name_length d (at + n)) ≡ true → Read n → Read (n + 1)
  byte_read n h run r =
      let v = r.current in
      let w = state v x.around (x.events ++ data_run at n ∷ []) in
      let fits : fitting s es D v pcdata ≡ taken = again_fits r.again s es pcdata ∙ data_fits in
      let on : at + n + 1 ≡ at + (n + 1) = omega arith in
      let line = taken_behind (at + n) l in
      let y = state (took v taken) x.around (x.events ++ data_run at (n + 1) ∷ []) in
      let taking : take_data s es D (at + n) w ≡ got y =
      take_data_got s es D (at + n) w (take_token s es D pcdata w) (settle_fits s es D pcdata (at + n) w (in_element v r.again) (le-leb 1 (fitting s es D v pcdata) (omega (arith, fits, some)))) few
      ∙ ap (λ (p : ℕ). got (state (took v p) x.around (with_data (at + n) (x.events ++ data_run at n ∷ [])))) fits
      ∙ ap (λ ev. got (state (took v taken) x.around ev)) (with_data_more at n (at + n) x.events refl) in
      let last : 1 ≤ last_or0 v.taken = omega (arith, r.again.last, data_last, some) in
      let goes_on = run_under c s es d (at + n) line v (not_ignored c d (at + n) l v (omega (arith, marked)) (not_fresh v last)) run in
      let (p, q, i, behind_it) = run_settles c s es D d (at + n) line w goes_on (λ e. omega (arith, fits, some)) in
      let comes = subst (λ (k : Line). Passes c s es D d (at + n + 1) k y) behind_it (goes (record { at = at + n + 1; state = y }) r.comes h q (i ∙ ap (go_on (at + n + 1)) taking)) in
      record {
        current = took v taken;
        again = again_took r.again taken some data_last data_there;
        comes = subst (λ (m : ℕ). Passes c s es D d m (taken_behind m l) y) on comes;
      }

  bytes_read : (n : ℕ) → at + (n + 1) ≤ length d → ((k : ℕ) → k < n → is_run (piece c.name_length d (at + (k + 1))) ≡ true) → Read 1 → Read (n + 1)
  bytes_read zero h run f = f
  bytes_read (suc n) h run f =
      let l : n + 1 ≡ suc n = omega arith in
      subst (λ (m : ℕ). Read (m + 1)) l (byte_read (n + 1) (omega arith) (run n (omega arith)) (bytes_read n (omega arith) (λ k i. run k (omega arith)) f))

  module _ (inside : at < length d) (run : is_run (piece_under c s es d at l z.current) ≡ true) (fits : piece_under c s es d at l z.current ≡ got blank → 1 ≤ fitting s es D z.current pcdata) (parted : joins at z.events ≡ false) where
    first_read : Read 1
    first_read =
        let y = state x.current x.around (x.events ++ data_run at 1 ∷ []) in
        let taking : take_data s es D at z ≡ got y =
        take_data_got s es D at z x settles few ∙ ap (λ ev. got (state x.current x.around ev)) (with_data_new at x.events (after.parted at parted)) in
        let (p, q, i, behind_it) = run_settles c s es D d at l z run fits in
        record {
          current = x.current;
          again = again_itself x.current;
          comes = subst (λ (k : Line). Passes c s es D d (at + 1) k y) behind_it (goes (record { at = at + 1; state = y }) passes inside q (i ∙ ap (go_on (at + 1)) taking));
        }

    each : (k : ℕ) → k < runs (length d - (at + 1)) d (at + 1) → is_run (piece c.name_length d (at + (k + 1))) ≡ true
    each k few =
        let m : at + (k + 1) ≡ at + 1 + k = omega arith in
        rw m (run_any c.name_length d (at + 1 + k) ∙ runs_each (length d - (at + 1)) d (at + 1) k few)

    -- The whole run is taken.
    pub run_passes : (v : Open) × Again x.current v × Passes c s es D d (run_end d (at + 1)) (taken_behind (run_end d (at + 1)) l) (state v x.around (x.events ++ data_run at (run_end d (at + 1) - at) ∷ []))
    run_passes =
        let n = runs (length d - (at + 1)) d (at + 1) in
        let i : at + (n + 1) ≡ run_end d (at + 1) = omega arith in
        let j : n + 1 ≡ run_end d (at + 1) - at = omega arith in
        let r = bytes_read n (omega (arith, run_end_in d (at + 1) (omega arith))) each first_read in
        let ends : ℕ → State = λ m. state r.current x.around (x.events ++ data_run at m ∷ []) in
        (r.current, r.again, subst (λ (m : ℕ). Passes c s es D d (run_end d (at + 1)) (taken_behind (run_end d (at + 1)) l) (ends m)) j (subst (λ (e : ℕ). Passes c s es D d e (taken_behind e l) (ends (n + 1))) i r.comes))

  -- A run is taken in an element, so that one is open behind it.
  pub run_within : (v : Open) → Again x.current v → {i : ℕ} {k : Line} {ev : List Event} → Passes c s es D d i k (state v x.around ev) → x.around ≡ [] → ⊥
  run_within v a {i} {k} {ev} p none = false≢true (sym (in_element v a) ∙ eq-eqb v.element 0 outermost)
    where
      outermost : v.element ≡ 0
      outermost = rw none at (passes_bottom s es D d p)

-- What a run taken at once says of its first byte

module _ (s : List ℕ) (es : List Element) (D : Decisions) (at size : ℕ) (z : State) where
  -- A run is taken: it was settled, with few enough open.
  pub run_taken : (y : State) → take_run s es D at size z ≡ got y
      → (x : State) × (settle s es D pcdata at z ≡ got x) × (ltb TAGLVL (length x.around) ≡ false) × (state x.current x.around (x.events ++ data_run at size ∷ []) ≡ y)
  run_taken y e = go (ways s es D at z)
    where
      go : Ways s es D at z → (x : State) × (settle s es D pcdata at z ≡ got x) × (ltb TAGLVL (length x.around) ≡ false) × (state x.current x.around (x.events ++ data_run at size ∷ []) ≡ y)
      go (refused_both n k q r) =
          let w = r size in
          let no : ◌≡◌ {A = ℕ} 0 1 = cc in
          absurd (omega arith)
      go (taken_both x q l r) =
          let w = r size in
          (x, q, l, cc)

  -- A run is refused as its first byte is.
  pub run_refused : (n k : ℕ) → take_run s es D at size z ≡ refused n k → take_data s es D at z ≡ refused n k
  run_refused n k e = go (ways s es D at z)
    where
      go : Ways s es D at z → take_data s es D at z ≡ refused n k
      go (refused_both m j q r) =
          let w = r size in
          cc
      go (taken_both x q l r) =
          let w = r size in
          let no : ◌≡◌ {A = ℕ} 0 1 = cc in
          absurd (omega arith)
