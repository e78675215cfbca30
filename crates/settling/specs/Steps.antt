-- The steps of a token in order, each by what the function that takes it promises.
use Rattle.std.specs.Prelude.{ℕ, ◌+◌, ◌≤◌, ◌≡◌, refl, Bool, false, ◌&&◌, List, eqb}
use Rattle.std.proofs.Common.{sym, ◌∙◌, arith}
use Rattle.rules.specs.Bytes.{TAGLVL, element_limit}
use Rattle.open_elements.specs.declared.OpenElements.{OpenElements}
use Rattle.open_elements.specs.declared.Outcome.{Outcome}
use Rattle.open_elements.specs.Stands.{Ranged}
use Rattle.attribute_events.specs.PutBefore.{PutsDefaults, PutsWritten}
use Rattle.ways.specs.Asks.{starts_of}
use Rattle.ways.specs.Ends.{over_says}
use Rattle.inferring.specs.declared.Stop.{Stop}
use Rattle.inferring.specs.Inferring.{Stops, Chooses, InfersStart}
use Rattle.inferring.specs.Starts.{Along, along_start, along_next}
use Rattle.placing.specs.Noting.{Opens, PlacedGot, opened_by}
use Rattle.placing.specs.Places.{places_opened}
use Rattle.settling.specs.Settled.{Settles}
use Rattle.settling.specs.Tokens.{settles_placed}

-- So many starts are inferred one after another, from the first open elements, bits and buffers to the last: each is that of the element that comes next (`next_start` of
-- inferring), behind the events of its attributes (`put_defaults` of attribute_events; `infer_start` of inferring). m is how many events there are then.
pub data Starts (rows places facts M lists : List ℕ) (at m₀ : ℕ) (o₀ : OpenElements) (begun₀ numbers₀ bytes₀ : List ℕ) : (k m : ℕ) → OpenElements → (begun numbers bytes : List ℕ) → Type 0 where
  none : Starts rows places facts M lists at m₀ o₀ begun₀ numbers₀ bytes₀ 0 m₀ o₀ begun₀ numbers₀ bytes₀
  more : {k m : ℕ} {o : OpenElements} {begun numbers bytes : List ℕ} {e m₁ : ℕ} {numbers₁ bytes₁ : List ℕ} {r : OpenElements} {begun' numbers' bytes' : List ℕ} → Starts rows places facts M lists at m₀ o₀ begun₀ numbers₀ bytes₀ k m o begun numbers bytes
      → Chooses places facts o e → PutsDefaults lists e m numbers bytes m₁ numbers₁ bytes₁ → InfersStart rows places facts M begun at m₁ o numbers₁ bytes₁ r begun' numbers' bytes'
      → Starts rows places facts M lists at m₀ o₀ begun₀ numbers₀ bytes₀ (k + 1) (m₁ + 1) r begun' numbers' bytes'

-- The start tag of x, or a run of data for 0, which is not refused, as the loop of document_events settles it; the tag stands from `at` to `shown`, the run is shown up to
-- there. The document is not over (`is_over` of ways). Ends are inferred (`ends` of inferring), then so many starts as were found, for which there is room. Between, the
-- run of data before may be put anew, by which the open elements stay as they are: so many events there are then, in these buffers. The events of the tag's attributes are
-- put, by their marks (`put_written` of attribute_events). The token takes its place (`placed` of placing). Where it opens (`opens` of ways), its element is opened
-- (`start` of open_elements).
pub record Steps (rows places facts M lists marks : List ℕ) (x at shown n : ℕ) (o : OpenElements) (begun numbers bytes : List ℕ) (q : OpenElements) (begun' numbers' bytes' : List ℕ) : Type 0 where
  pub on : eqb o.element.0 0 && o.complete ≡ false
  pub stop : Stop
  pub numbers_ended : List ℕ
  pub bytes_ended : List ℕ
  pub ends : Stops rows places facts M begun x at n o numbers bytes stop numbers_ended bytes_ended
  pub room : stop.open.count + starts_of stop.found ≤ TAGLVL
  pub before : ℕ
  pub numbers_before : List ℕ
  pub bytes_before : List ℕ
  pub last : OpenElements
  pub begun_last : List ℕ
  pub numbers_last : List ℕ
  pub bytes_last : List ℕ
  pub many : ℕ
  pub starts : Starts rows places facts M lists at before stop.open begun numbers_before bytes_before (starts_of stop.found) many last begun_last numbers_last bytes_last
  pub with : ℕ
  pub numbers_given : List ℕ
  pub bytes_given : List ℕ
  pub given : PutsWritten lists marks x many numbers_last bytes_last with numbers_given bytes_given
  pub put : Outcome
  pub placed : PlacedGot rows places facts M begun_last stop.found x at shown with last numbers_given bytes_given put begun' numbers' bytes'
  pub opens : Bool
  pub told : Opens facts x opens
  pub opened : q ≡ opened_by rows x opens put.open

starts_along : {rows places facts M lists : List ℕ} {at m₀ : ℕ} {o₀ : OpenElements} {begun₀ numbers₀ bytes₀ : List ℕ} {k m : ℕ} {o : OpenElements} {begun numbers bytes : List ℕ} → Ranged o₀ → (starts : ℕ) → o₀.count + starts ≤ TAGLVL → k ≤ starts
    → Starts rows places facts M lists at m₀ o₀ begun₀ numbers₀ bytes₀ k m o begun numbers bytes → Along rows places facts M lists at m₀ starts k o₀ begun₀ numbers₀ bytes₀ m o begun numbers bytes
starts_along h starts room l none = along_start _ _ _ _ _ _ _ _ _ _ _ _ h
starts_along h starts room l (more before chooses defaults i) =
    let a = starts_along h starts room (omega arith) before in
    along_next _ _ _ _ _ _ _ _ a (omega arith) (omega (arith, a.deep)) chooses defaults i

-- What the steps make of the token is what the rules make of it.
pub steps_settle : {rows places facts M lists marks : List ℕ} {x at shown n : ℕ} {o : OpenElements} {begun numbers bytes : List ℕ} {q : OpenElements} {begun' numbers' bytes' : List ℕ} → Ranged o → x ≤ element_limit
    → (h : Steps rows places facts M lists marks x at shown n o begun numbers bytes q begun' numbers' bytes')
    → Settles rows places facts M lists marks x at shown o begun h.ends.turns.events h.before h.numbers_before h.bytes_before (record { «open» = q; events = h.put.events }) begun' numbers' bytes'
steps_settle {shown = shown} g small h =
    settles_placed shown g.few (λ s es z stands. sym (over_says s stands) ∙ h.on) h.ends refl h.room (starts_along h.ends.turns.ranged (starts_of h.stop.found) h.room (omega arith) h.starts) (omega arith) h.given
    (places_opened h.placed small h.opens h.told h.opened)
