-- A colour that gets another owner was the job's that steps, and who gets it may take it.
use Rattle.std.proofs.Common.{◌≡◌, ◌≢◌, ◌⊎◌, ◌<◌, ℕ, Option, Some, None, List, []}
use Rattle.std.proofs.Common.{length, Contains, refl, sym, subst, ap, ◌∙◌, arith, inl, inr}
use Rattle.std.specs.List.{slice_get}
use Rattle.std.specs.Option.{option_map_or}
use Rattle.std.proofs.lemmas.Bool.{cases_eq, cases_lt}
use Rattle.std.proofs.lemmas.List.{get_or_past}
use Rattle.std.proofs.lemmas.Option.{slice_get_past}
use Rattle.sw_list.proofs.ListLemmas.{some_injective}
use Rattle.sw_graph.specs.declared.function.Function.{Function}
use Rattle.sw_graph.specs.declared.graph.Graph.{Graph}
use Rattle.sw_graph.specs.Clean.{IsClean}
use Rattle.sw_graph.specs.Points.{Point}
use Rattle.sw_graph.specs.Supplied.{IsSupplied}
use Rattle.sw_value.specs.declared.effect.Act.{Act}
use Rattle.sw_value.specs.declared.effect.Act.TheVariants.{Dispatch, Execute, Wake}
use Rattle.sw_value.specs.declared.effect.Effect.{Effect}
use Rattle.sw_value.specs.declared.frame.Frame.{Frame}
use Rattle.sw_value.specs.declared.job.Job.{Job}
use Rattle.sw_value.specs.Act.{act_of}
use Rattle.sw_machine_kind_facts.proofs.ItemLemmas.{found_within}
use Rattle.sw_color_rules.specs.declared.colored.Colored.{Colored}
use Rattle.sw_color_rules.specs.declared.colors.Colors.{Colors}
use Rattle.sw_color_rules.specs.declared.colors.Owner.{Owner}
use Rattle.sw_color_rules.specs.declared.colors.Owner.TheVariants as owner
use Rattle.sw_color_rules.specs.declared.colors.Palette.{Palette}
use Rattle.sw_color_rules.specs.declared.plan.Plan.{Plan}
use Rattle.sw_color_rules.specs.Changes.{Change, after_changes}
use Rattle.sw_color_rules.specs.Machine.{changes_of, colored_reach, colored_step}
use Rattle.sw_color_rules.specs.Names.{name_in}
use Rattle.sw_color_rules.specs.Palette.{IsWhole, owner_in}
use Rattle.sw_color_rules.specs.Plans.{changes_by, makings, next_color, plan_of}
use Rattle.sw_color_rules.specs.Ranges.{AreBelow}
use Rattle.sw_color_rules.proofs.PaletteLemmas.{changes_whole}
use Rattle.sw_partition.specs.Regions.{Regions}
use Rattle.sw_owner_facts.specs.Colours.{Actor, OfActor, OfJob}
use Rattle.sw_owner_facts.specs.View.{Frame as Spot}
use Rattle.sw_view_facts.specs.Standing.{StandsAt}
use Rattle.sw_late_facts.specs.Alike.{job_of}
use Rattle.sw_late_facts.specs.Hues.{hue, hue_by}
use Rattle.sw_late_facts.proofs.Links.{seen_count}
use Rattle.sw_late_facts.proofs.Seen.{Jobs}
use Rattle.sw_late_facts.proofs.Showing.{sight, sight_changes}
use Rattle.sw_secure_job_facts.specs.Begins.{AreAnnotated}
use Rattle.sw_sound_facts.proofs.Acting.{executes_at}
use Rattle.sw_secure_late_facts.proofs.Coloured.{job_owns}
use Rattle.sw_secure_late_facts.proofs.Numbers.{all_in, job_number}
use Rattle.sw_secure_late_facts.proofs.Turning.{hues_made}
use Rattle.sw_owned_facts.specs.Holding.{colour_with, owner_by}
use Rattle.sw_owned_facts.specs.Taking.{ByTask, Does, MayTake}
use Rattle.sw_owned_facts.proofs.Changing.{Handed, Outcome, Stays, Turns, planned}
use Rattle.sw_owned_facts.proofs.Coming.{Comes, GivesIt, MakesJob, OfHeir, OfTaker, Own}
use Rattle.sw_owned_facts.proofs.Coming.{after_is, base, base_whole, comes, heirs, joins}
use Rattle.sw_owned_facts.proofs.Coming.{plan}
use Rattle.sw_owned_facts.proofs.Keeping.{keeps}
use Rattle.sw_owned_facts.proofs.Numbers.{owner_as, same_name}
use Rattle.sw_owned_facts.proofs.Owned.{colored_known}

-- an owner that is a job
is_job : (o : Option Owner) (other : Owner) (k : ℕ) → o ≡ Some other → job_of o ≡ Some k
    → other ≡ owner.Job k
is_job None other k is job = absurd (let no : ⊥ = cc in no)
is_job (Some (owner.Job j)) other k is job =
    sym (some_injective is) ∙ ap owner.Job (some_injective job)
is_job (Some (owner.ActorOf c)) other k is job = absurd (let no : ⊥ = cc in no)
is_job (Some (owner.Global g)) other k is job = absurd (let no : ⊥ = cc in no)

cases_owner : (a b : Owner) → (a ≡ b) ⊎ (a ≢ b)
cases_owner (owner.Job i) (owner.Job j) = elim (cases_eq i j) [
  | inl same ↦ inl (ap owner.Job same)
  | inr other ↦ inr (λ is. other (let e : i ≡ j = cc in e))
]
cases_owner (owner.ActorOf i) (owner.ActorOf j) = elim (cases_eq i j) [
  | inl same ↦ inl (ap owner.ActorOf same)
  | inr other ↦ inr (λ is. other (let e : i ≡ j = cc in e))
]
cases_owner (owner.Global i) (owner.Global j) = elim (cases_eq i j) [
  | inl same ↦ inl (ap owner.Global same)
  | inr other ↦ inr (λ is. other (let e : i ≡ j = cc in e))
]
cases_owner (owner.Job i) (owner.ActorOf j) = inr (λ is. cc)
cases_owner (owner.Job i) (owner.Global j) = inr (λ is. cc)
cases_owner (owner.ActorOf i) (owner.Job j) = inr (λ is. cc)
cases_owner (owner.ActorOf i) (owner.Global j) = inr (λ is. cc)
cases_owner (owner.Global i) (owner.Job j) = inr (λ is. cc)
cases_owner (owner.Global i) (owner.ActorOf j) = inr (λ is. cc)

-- what has an owner was made
owned_low : (p : Palette) → IsWhole p → (n : ℕ) (one : Owner) → owner_in p n ≡ Some one
    → n < length p.names
owned_low p whole n one is = elim (cases_lt n (length p.names)) [
  | inl low ↦ low
  | inr past ↦
      let none = ap (slice_get p.owners) (get_or_past p.names n n past)
      ∙ slice_get_past p.owners n (let owned = whole.owned in omega (arith, owned, past)) in
      absurd (let clash : None ≡ Some one = sym none ∙ is in let no : ⊥ = cc in no)
]

module _ (graph : Graph) (clean : IsClean graph) (supplied : IsSupplied graph)
    (states : ℕ → List (Option Regions)) (annotated : AreAnnotated graph states) (items : List ℕ)
  where
    abbrev before : Colored
    before = colored_reach graph items

    abbrev colors : Colors
    colors = before.colors

    was_whole : IsWhole (colored_reach graph items).colors.palette
    was_whole = (colored_known graph clean supplied states annotated items).late.whole

    -- the job takes the colour from a job that steps
    abbrev Takings : ℕ → ℕ → Owner → Type 0
    Takings item j other = (j ≡ item) × MayTake graph (colored_reach graph items) item other

    -- ---- an effect
    module _ (q : Spot) (job : Job) (f : Frame) (function : Function) (point : Point)
        (stands : StandsAt graph (colored_reach graph items).state q job f function point)
        (e : Effect)
        (gives : GivesIt graph clean supplied states annotated items q job f function point stands
        e)
        (does : Does graph (colored_reach graph items) q.job e) where
      abbrev after : Colored
      after = colored_step graph before q.job

      abbrev start : Colors
      start = base graph clean supplied states annotated items q job f function point stands e

      abbrev ComesIn : ℕ → Type 0
      ComesIn = Comes graph clean supplied states annotated items q job f function point stands e

      start_whole : IsWhole start.palette
      start_whole = base_whole graph clean supplied states annotated items q job f function point
          stands e gives does

      module _ (n j : ℕ) (other : Owner) (was : owner_by before n ≡ Some (owner.Job j))
          (now : owner_by after n ≡ Some other) (differs : owner.Job j ≢ other) where
        low : n < next_color colors
        low = owned_low colors.palette was_whole n (owner.Job j) was

        shade : hue start.palette n ≡ OfJob j (name_in colors.palette.names n)
        shade = hues_made q.job (plan graph clean supplied states annotated items q job f function
            point stands e) colors was_whole n low
            ∙ ap (λ o. hue_by o (name_in colors.palette.names n)) was

        shade_is : (l : ℕ) → name_in start.palette.names l ≡ name_in start.palette.names n
            → hue start.palette l ≡ OfJob j (name_in colors.palette.names n)
        shade_is l same = same_name start.palette l n same ∙ shade

        -- what becomes one with others is the job's that steps
        of_item : (l : ℕ) → ComesIn l
            → name_in start.palette.names l ≡ name_in start.palette.names n → j ≡ q.job
        of_item l (Own k is) same =
            let both : OfJob j (name_in colors.palette.names n) ≡ OfJob q.job k =
            sym (shade_is l same) ∙ is in
            cc
        of_item l (OfTaker a is kept takes) same =
            let both : OfJob j (name_in colors.palette.names n) ≡ OfActor a =
            sym (shade_is l same) ∙ is in
            absurd (let no : ⊥ = cc in no)
        of_item l (OfHeir k is makes) same =
            let new = job_number (owner_in start.palette l) (name_in start.palette.names l) k
            (next_color colors) is in
            let lower = start_whole.lower n in
            absurd (omega (arith, new, same, lower, low))

        -- who owns it then is the actor that owns the colour with which it is one
        by_actor : (m : ℕ) (a : Actor)
            → name_in after.colors.palette.names n ≡ name_in after.colors.palette.names m
            → owner_by after m ≡ Some (owner_as a) → MayTake graph before q.job (owner_as a)
            → MayTake graph before q.job other
        by_actor m a name kept takes =
            subst (MayTake graph before q.job) (some_injective
            (sym kept ∙ ap (slice_get after.colors.palette.owners) (sym name) ∙ now)) takes

        -- the number is of a colour that the plan starts with
        start_low : n < next_color start
        start_low =
            let made = makings q.job (plan graph clean supplied states annotated items q job f
            function point stands e) in
            let more = seen_count made (sight colors.palette) in
            let count = ap (λ (s : Jobs). s.count) (sight_changes made colors was_whole) in
            omega (arith, low, more, count)

        -- or a job
        by_job : (m i k : ℕ) → m < next_color start → hue start.palette m ≡ OfJob i k
            → job_of (owner_by after n) ≡ job_of (owner_in start.palette m) → other ≡ owner.Job i
        by_job m i k inside is same = is_job (owner_by after n) other i now
            (same ∙ ap job_of (job_owns start.palette start_whole m inside i k is))

        -- which isn't the one that steps
        not_own : (i : ℕ) → j ≡ q.job → i ≡ q.job → other ≡ owner.Job i → ⊥
        not_own i own is same = differs (ap owner.Job (own ∙ sym is) ∙ sym same)

        by_task : (k : ℕ) → MakesJob graph clean supplied states annotated items q job f function
            point stands e k → other ≡ owner.Job k → MayTake graph before q.job other
        by_task k (r, frame, cell, next, is) same = ByTask r frame k cell next
            (subst (Does graph before q.job) is does) (inl same)

        becomes : (m : ℕ) → m < next_color start → ComesIn m
            → name_in after.colors.palette.names n ≡ name_in after.colors.palette.names m
            → job_of (owner_by after n) ≡ job_of (owner_in start.palette m) → j ≡ q.job
            → MayTake graph before q.job other
        becomes m inside (Own k is) name same own =
            absurd (not_own q.job own refl (by_job m q.job k inside is same))
        becomes m inside (OfTaker a is kept takes) name same own =
            by_actor m a name (kept a is) takes
        becomes m inside (OfHeir k is makes) name same own =
            by_task k makes (by_job m k (next_color colors) inside is same)

        pub executed : (j ≡ q.job) × MayTake graph (colored_reach graph items) q.job other
        executed = by (subst (λ (c : Colors). Outcome it.joined it.heir (sight start.palette)
            (sight c.palette) n)
            (sym (after_is graph clean supplied states annotated items q job f function point stands
            e gives does))
            (planned q.job it colors was_whole below n))
          where
            it : Plan
            it = plan graph clean supplied states annotated items q job f function point stands e

            below : AreBelow (next_color start) it.joined
            below = (joins graph clean supplied states annotated items q job f function point stands
                e gives does).below

            comes_in : (l : ℕ) → Contains it.joined l → ComesIn l
            comes_in = comes graph clean supplied states annotated items q job f function point
                stands e gives does

            by : Outcome it.joined it.heir (sight start.palette) (sight after.colors.palette) n
                → (j ≡ q.job) × MayTake graph (colored_reach graph items) q.job other
            by (Stays owner) = absurd (differs (sym (is_job (owner_by after n) other j now (owner
                ∙ ap job_of (job_owns start.palette start_whole n start_low j
                (name_in colors.palette.names n) shade)))))
            by (Turns l m l_in m_in same name owner) =
                let own = of_item l (comes_in l l_in) same in (
                  own,
                  becomes m (all_in (λ k. k < next_color start) it.joined m below m_in)
                      (comes_in m m_in) name owner own,
                )
            by (Handed l k l_in same heir owner) = (
              of_item l (comes_in l l_in) same,
              by_task k (heirs graph clean supplied states annotated items q job f function point
                  stands e k heir) (is_job (owner_by after n) other k now owner),
            )

    -- ---- an item
    abbrev Outcomes : ℕ → Type 0
    Outcomes item = (n j : ℕ) (other : Owner) → owner_by before n ≡ Some (owner.Job j)
        → owner_by (colored_step graph before item) n ≡ Some other → owner.Job j ≢ other
        → Takings item j other

    none : (item : ℕ) → changes_of graph before item ≡ [] → Outcomes item
    unfolding colored_step
    none item is n j other was now differs = absurd (differs (some_injective
        (sym was ∙ sym (ap (λ cs. owner_in (after_changes cs colors).palette n) is) ∙ now)))

    -- the changes of what the item makes its job do
    abbrev planned_of : ℕ → Option Act → List Change
    planned_of item o =
        option_map_or (λ act. changes_by item (plan_of graph before.state colors item act)) o []

    acted : (item : ℕ) (o : Option Act) → act_of graph before.state item ≡ o → Outcomes item
    unfolding changes_of
    acted item None acts = none item
        (ap (planned_of item) acts)
    acted item (Some Dispatch) acts = none item
        (ap (planned_of item) acts)
    acted item (Some (Wake ended r v)) acts = none item
        (ap (planned_of item) acts)
    acted item (Some (Execute e)) acts =
        let at = executes_at graph before.state item e acts in
        subst Outcomes at.is_job (λ n j other was now differs.
        executed at.q at.job at.frame at.function at.point at.stands e at.gives
        (ap (act_of graph before.state) at.is_job ∙ acts) n j other was now differs)

    -- a colour that gets another owner
    pub taken : (item n : ℕ) (one other : Owner) → owner_by (colored_reach graph items) n ≡ Some one
        → owner_by (colored_step graph (colored_reach graph items) item) n ≡ Some other
        → one ≢ other
        → (one ≡ owner.Job item) × MayTake graph (colored_reach graph items) item other
    taken item n (owner.Job j) other was now differs =
        let found = acted item (act_of graph before.state item) refl n j other was now differs in
        (ap owner.Job found.0, found.1)
    taken item n (owner.ActorOf c) other was now differs = absurd (differs (some_injective
        (sym (keeps graph clean supplied states annotated items item n (owner.ActorOf c) refl was)
        ∙ now)))
    taken item n (owner.Global g) other was now differs = absurd (differs (some_injective
        (sym (keeps graph clean supplied states annotated items item n (owner.Global g) refl was)
        ∙ now)))

    -- what was made has an owner after the step
    owned_next : (item n : ℕ) (one : Owner) → owner_by (colored_reach graph items) n ≡ Some one
        → (o : Owner) × (owner_by (colored_step graph (colored_reach graph items) item) n ≡ Some o)
    unfolding colored_step
    owned_next item n one was =
        let low = owned_low colors.palette was_whole n one was in
        let next = after_changes (changes_of graph before item) colors in
        let whole = changes_whole (changes_of graph before item) colors was_whole in
        let lower = whole.lower n in
        let owned = whole.owned in
        let more = seen_count (changes_of graph before item) (sight colors.palette) in
        let count = ap (λ (s : Jobs). s.count)
        (sight_changes (changes_of graph before item) colors was_whole) in
        found_within next.palette.owners (name_in next.palette.names n)
        (omega (arith, low, lower, owned, more, count))

    -- two colours of different owners that become one
    pub met : (item n m : ℕ) (one other : Owner) → owner_by (colored_reach graph items) n ≡ Some one
        → owner_by (colored_reach graph items) m ≡ Some other → one ≢ other
        → colour_with (colored_step graph (colored_reach graph items) item) n
        ≡ colour_with (colored_step graph (colored_reach graph items) item) m
        → ((one ≡ owner.Job item) × MayTake graph (colored_reach graph items) item other)
        ⊎ ((other ≡ owner.Job item) × MayTake graph (colored_reach graph items) item one)
    met item n m one other was also differs same =
        let left = owned_next item n one was in
        by left.0 left.1 (cases_owner one left.0) (cases_owner other left.0)
      where
        moved : (o : Owner)
            → owner_by (colored_step graph (colored_reach graph items) item) n ≡ Some o
            → owner_by (colored_step graph (colored_reach graph items) item) m ≡ Some o
        moved o now = ap (slice_get
            (colored_step graph (colored_reach graph items) item).colors.palette.owners) (sym same)
            ∙ now

        by : (o : Owner) → owner_by (colored_step graph (colored_reach graph items) item) n ≡ Some o
            → (one ≡ o) ⊎ (one ≢ o) → (other ≡ o) ⊎ (other ≢ o)
            → ((one ≡ owner.Job item) × MayTake graph (colored_reach graph items) item other)
            ⊎ ((other ≡ owner.Job item) × MayTake graph (colored_reach graph items) item one)
        by o now (inl is) (inl too) = absurd (differs (is ∙ sym too))
        by o now (inr apart) (inl too) =
            let found = taken item n one o was now apart in
            inl (found.0, subst (MayTake graph (colored_reach graph items) item) (sym too) found.1)
        by o now (inl is) (inr apart) =
            let found = taken item m other o also (moved o now) apart in
            inr (found.0, subst (MayTake graph (colored_reach graph items) item) (sym is) found.1)
        by o now (inr first) (inr second) =
            let one_own = (taken item n one o was now first).0 in
            let other_own = (taken item m other o also (moved o now) second).0 in
            absurd (differs (one_own ∙ sym other_own))
