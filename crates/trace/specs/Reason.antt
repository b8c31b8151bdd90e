-- Why a list has no match: the first slot that can't be filled, the first events for the slots before it, and what stands in its way.
-- Assumes nothing.
use Rattle.std.specs.Prelude.{◌≡◌, Bool, true, false, List, ◌∷◌, ◌++◌, ℕ, ◌≤◌, ◌<◌, length}
use Rattle.trace.specs.Before.{Numbered, ComesBefore}
use Rattle.trace.specs.Match.{Each, Named}

-- "one of two cases": that no event fits the slot; or the last event that does, and a slot before it, both by their numbers
pub data Obstacle : Type 0 where
  no_fit : Obstacle
  last_fit : (event slot : ℕ) → Obstacle

module _ {E S : Type 0} (dep : E → E → Bool) (fits : S → E → Bool) where
  -- "the first events for slots 1 to k-1 (least in every slot, as in Note 5)": they satisfy the rule of document 01 within the whole log, and in no slot
  -- has another such list a smaller number
  pub record FirstEvents (ss : List S) (log : List E) (events : List ℕ) : Type 0 where
    pub named : Named dep fits ss log (length log) events
    pub least : (others : List ℕ) → Named dep fits ss log (length log) others → Each (λ e f. e ≤ f) events others

  -- what stands in the way of a slot, the events of the slots before it being these
  pub data InTheWay (log : List E) (s : S) (events : List ℕ) : Obstacle → Type 0 where
    -- "no event of the log fits slot k"
    none_fits : ((i : ℕ) (e : E) → Numbered log i e → fits s e ≡ false) → InTheWay log s events no_fit
    -- "the number of the LAST event that fits slot k and the lowest slot i below k whose event it comes before or is"
    too_early : {l i c : ℕ} {e : E} → Numbered log l e → fits s e ≡ true
        → ((m : ℕ) (a : E) → Numbered log m a → fits s a ≡ true → m ≤ l) → Numbered events i c → ComesBefore dep log l c
        → ((j d : ℕ) → j < i → Numbered events j d → ¬ ComesBefore dep log l d) → InTheWay log s events (last_fit l i)

  -- "the number k of the first slot that can't be filled, the first events for slots 1 to k-1 .., and one of two cases": k is one more than there are
  -- events
  pub record Reason (ss : List S) (log : List E) (events : List ℕ) (o : Obstacle) : Type 0 where
    pub earlier : List S
    pub slot : S
    pub later : List S
    pub slots : ss ≡ earlier ++ (slot ∷ later)
    pub first : FirstEvents earlier log events
    pub obstacle : InTheWay log slot events o
