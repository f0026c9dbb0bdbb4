-- What is known after one more event: all that was, and to whom the event tells it also what its job
-- knew.
use Rattle.std.proofs.Common.{◌≡◌, ◌≢◌, ◌<◌, ◌⊎◌, inl, inr, ℕ, IsTrue, Some, List, [], ◌∷◌, ◌++◌}
use Rattle.std.proofs.Common.{Contains, length, refl, sym, subst, ap, ◌∙◌}
use Rattle.sw_list.proofs.ListLemmas.{at_seam, slice_get_before}
use Rattle.sw_value.specs.declared.executor.Executor.{Executor}
use Rattle.sw_value.specs.declared.executor.Executor.TheVariants as executor
use Rattle.sw_value.specs.Transition.{Transition}
use Rattle.sw_owner_facts.specs.Colours.{Actor, Instance, GlobalActor}
use Rattle.sw_before.specs.Before.{Before, LeadsAt}
use Rattle.sw_before.specs.Channels.{Channel, OfExecutor, IsKnown, told_by}
use Rattle.sw_before.specs.Channels as channel
use Rattle.sw_before.specs.Closure.{through}
use Rattle.sw_before.proofs.BeforeLemmas.{before_less, before_more, get_within}
use Rattle.sw_before.proofs.ChannelLemmas.{heard_end, heard_entered, hears_job, told_end, told_left}
use Rattle.sw_before.proofs.ChannelLemmas.{told_made, tells_job}
use Rattle.sw_before.proofs.ClosureLemmas.{OrSame}
use Rattle.sw_before.proofs.KnownLemmas.{at_end, end_hears, known_back, known_end, known_more}
use Rattle.sw_machine_name_facts.specs.Given.{made_cell}
use Rattle.sw_order_facts.specs.Knowing.{ActorKeeps, EndTells, HasMaking, JobKnows, LeadsToCell}
use Rattle.sw_order_facts.specs.Knowing.{MakesCell, executor_of}

-- no actor is the generic executor
pub not_generic : (actor : Actor) → executor_of actor ≢ executor.Generic
not_generic (Instance c) is = cc
not_generic (GlobalActor g) is = cc

-- ---- what is before something known is known
pub known_before : (events : List Transition) (c : Channel) (p q : ℕ)
    → OrSame (LeadsAt events) p q → IsKnown events c q → IsKnown events c p
known_before events c p q (inl same) known = subst (IsKnown events c) (sym same) known
known_before events c p q (inr before) known = record {
  teller = known.teller;
  event = known.event;
  is_event = known.is_event;
  told = known.told;
  reaches = inr (elim known.reaches [
    | inl at ↦ subst (Before events p) at before
    | inr later ↦ through p q known.teller before later
  ]);
}

-- the makings of a cell among some events are among others
pub making_among : (events : List Transition) (These Those : ℕ → Type 0) (k : ℕ)
    → ((p : ℕ) → These p → Those p) → HasMaking events These k → HasMaking events Those k
making_among events These Those k more has = record {
  making = has.making;
  makes = has.makes;
  among = more has.making has.among;
}

module _ (events : List Transition) (t : Transition) where
  -- the new event, or what happens before it
  abbrev pub IsReached : ℕ → Type 0
  IsReached p = OrSame (LeadsAt (events ++ t ∷ [])) p (length events)

  -- ---- what was known is known
  pub job_grows : (j p : ℕ) → JobKnows events j p → JobKnows (events ++ t ∷ []) j p
  job_grows j p = known_more events t (channel.OfJob j) p

  pub end_grows : (j p : ℕ) → EndTells events j p → EndTells (events ++ t ∷ []) j p
  end_grows j p = known_more events t (channel.OfEnd j) p

  pub makes_grows : (p k : ℕ) → MakesCell events p k → MakesCell (events ++ t ∷ []) p k
  makes_grows p k makes = record {
    event = makes.event;
    is = slice_get_before events (t ∷ []) p makes.event makes.is;
    makes = makes.makes;
  }

  grows : (p q : ℕ) → OrSame (LeadsAt events) p q → OrSame (LeadsAt (events ++ t ∷ [])) p q
  grows p q (inl same) = inl same
  grows p q (inr before) = inr (before_more events (t ∷ []) p q before)

  pub leads_grows : (c p : ℕ) → LeadsToCell events c p → LeadsToCell (events ++ t ∷ []) c p
  leads_grows c p leads = record {
    making = leads.making;
    makes = makes_grows leads.making c leads.makes;
    reaches = grows p leads.making leads.reaches;
  }

  pub keeps_grows : (actor : Actor) (p : ℕ) → ActorKeeps events actor p
      → ActorKeeps (events ++ t ∷ []) actor p
  keeps_grows (Instance c) p (inl known) =
      inl (known_more events t (OfExecutor (executor.ActorOf c)) p known)
  keeps_grows (Instance c) p (inr leads) = inr (leads_grows c p leads)
  keeps_grows (GlobalActor g) p known = known_more events t (OfExecutor (executor.Global g)) p known

  pub making_grows : (These Those : ℕ → Type 0) (k : ℕ) → ((p : ℕ) → These p → Those p)
      → HasMaking events These k → HasMaking (events ++ t ∷ []) Those k
  making_grows These Those k more has = record {
    making = has.making;
    makes = makes_grows has.making k has.makes;
    among = more has.making has.among;
  }

  -- ---- what happens before the new event
  pub job_before : (p : ℕ) → JobKnows events t.job p
      → Before (events ++ t ∷ []) p (length events)
  job_before p known = end_hears events t (channel.OfJob t.job) p (hears_job t) known

  pub job_reaches : (p : ℕ) → JobKnows events t.job p → IsReached p
  job_reaches p known = inr (job_before p known)

  pub end_reaches : (i p : ℕ) → t.follows ≡ Some i → EndTells events i p → IsReached p
  end_reaches i p follows known =
      inr (end_hears events t (channel.OfEnd i) p (heard_end t i follows) known)

  pub executor_reaches : (x : Executor) (p : ℕ) → x ≢ executor.Generic → t.enters ≡ Some x
      → IsKnown events (OfExecutor x) p → IsReached p
  executor_reaches x p other enters known =
      inr (end_hears events t (OfExecutor x) p (heard_entered t x other enters) known)

  -- ---- to whom it is told
  pub own_learns : (p : ℕ) → IsReached p → JobKnows (events ++ t ∷ []) t.job p
  own_learns p reached = known_end events t (channel.OfJob t.job) p (tells_job t) reached

  pub heir_learns : (i p : ℕ) → t.makes ≡ Some i → IsReached p → JobKnows (events ++ t ∷ []) i p
  heir_learns i p makes reached =
      known_end events t (channel.OfJob i) p (told_made t i makes) reached

  pub end_learns : (p : ℕ) → IsTrue t.ends → IsReached p → EndTells (events ++ t ∷ []) t.job p
  end_learns p ends reached =
      known_end events t (channel.OfEnd t.job) p (told_end t ends) reached

  pub makes_now : (c : ℕ) → made_cell t.act ≡ Some c
      → MakesCell (events ++ t ∷ []) (length events) c
  makes_now c makes = record { event = t; is = at_seam events t []; makes = makes }

  pub cell_learns : (c p : ℕ) → made_cell t.act ≡ Some c → IsReached p
      → LeadsToCell (events ++ t ∷ []) c p
  cell_learns c p makes reached = record {
    making = length events;
    makes = makes_now c makes;
    reaches = reached;
  }

  pub left_learns : (actor : Actor) (p : ℕ) → t.leaves ≡ Some (executor_of actor) → IsReached p
      → ActorKeeps (events ++ t ∷ []) actor p
  left_learns (Instance c) p leaves reached =
      inl (known_end events t (OfExecutor (executor.ActorOf c)) p
      (told_left t (executor.ActorOf c) (not_generic (Instance c)) leaves) reached)
  left_learns (GlobalActor g) p leaves reached =
      known_end events t (OfExecutor (executor.Global g)) p
      (told_left t (executor.Global g) (not_generic (GlobalActor g)) leaves) reached

  -- ---- what is new
  pub makes_back : (p k : ℕ) → MakesCell (events ++ t ∷ []) p k
      → MakesCell events p k ⊎ ((p ≡ length events) × (made_cell t.act ≡ Some k))
  makes_back p k makes = elim (at_end events t makes.event p makes.is) [
    | inl below ↦ inl (record {
      event = makes.event;
      is = get_within events (t ∷ []) p makes.event below makes.is;
      makes = makes.makes;
    })
    | inr now ↦ inr (now.0, ap (λ (x : Transition). made_cell x.act) (sym now.1) ∙ makes.makes)
  ]

  nearer : (p q : ℕ) → q < length events → OrSame (LeadsAt (events ++ t ∷ [])) p q
      → OrSame (LeadsAt events) p q
  nearer p q below (inl same) = inl same
  nearer p q below (inr before) = inr (before_less events (t ∷ []) p q below before)

  pub leads_back : (c p : ℕ) → LeadsToCell (events ++ t ∷ []) c p
      → LeadsToCell events c p ⊎ ((made_cell t.act ≡ Some c) × OrSame (LeadsAt (events ++ t ∷ [])) p
      (length events))
  leads_back c p leads = elim (at_end events t leads.makes.event leads.making leads.makes.is) [
    | inl below ↦ inl (record {
      making = leads.making;
      makes = record {
        event = leads.makes.event;
        is = get_within events (t ∷ []) leads.making leads.makes.event below leads.makes.is;
        makes = leads.makes.makes;
      };
      reaches = nearer p leads.making below leads.reaches;
    })
    | inr now ↦ inr (
      ap (λ (x : Transition). made_cell x.act) (sym now.1) ∙ leads.makes.makes,
      subst (λ q. OrSame (LeadsAt (events ++ t ∷ [])) p q) now.0 leads.reaches,
    )
  ]

  -- What an actor keeps more it keeps by the new event: its job leaves the actor, or makes it.
  pub keeps_back : (actor : Actor) (p : ℕ) → ActorKeeps (events ++ t ∷ []) actor p
      → ActorKeeps events actor p
      ⊎ (OrSame (LeadsAt (events ++ t ∷ [])) p (length events)
      × (Contains (told_by t) (OfExecutor (executor_of actor))
      ⊎ ((c : ℕ) × (actor ≡ Instance c) × (made_cell t.act ≡ Some c))))
  keeps_back (Instance c) p (inl known) =
      elim (known_back events t (OfExecutor (executor.ActorOf c)) p known) [
        | inl old ↦ inl (inl old)
        | inr told ↦ inr (told.1, inl told.0)
      ]
  keeps_back (Instance c) p (inr leads) = elim (leads_back c p leads) [
    | inl old ↦ inl (inr old)
    | inr makes ↦ inr (makes.1, inr (c, refl, makes.0))
  ]
  keeps_back (GlobalActor g) p known =
      elim (known_back events t (OfExecutor (executor.Global g)) p known) [
        | inl old ↦ inl old
        | inr told ↦ inr (told.1, inl told.0)
      ]
