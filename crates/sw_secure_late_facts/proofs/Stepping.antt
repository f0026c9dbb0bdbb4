-- Each act of a late state that is secure by hue leads to one.
use Rattle.std.proofs.Common.{◌≡◌, ◌≢◌, ◌<◌, ℕ, true, false, Option, Some, None, List, [], ◌∷◌}
use Rattle.std.proofs.Common.{◌++◌}
use Rattle.std.proofs.Common.{length, map, get_or, refl, sym, subst, ap, ◌∙◌, arith, inl, inr}
use Rattle.std.specs.Prelude.{filter, not}
use Rattle.std.specs.List.{All, AllPairs, slice_get}
use Rattle.std.proofs.lemmas.Bool.{eqb-true, eq-eqb}
use Rattle.std.proofs.lemmas.List.{append-nil, length-map}
use Rattle.std.proofs.lemmas.List.Elements.{All-cons, All-filter, All-head, All-push, filter_passes}
use Rattle.std.proofs.lemmas.List.Kept.{AllPairs-filter}
use Rattle.std.proofs.lemmas.Option.{slice_get_within}
use Rattle.sw_graph.specs.declared.function.Function.{Function}
use Rattle.sw_graph.specs.declared.graph.Graph.{Graph}
use Rattle.sw_graph.specs.Points.{Point}
use Rattle.sw_value.specs.declared.effect.Act.{Act}
use Rattle.sw_value.specs.declared.effect.Act.TheVariants.{Dispatch, Wake, Execute}
use Rattle.sw_value.specs.declared.effect.Effect.{Effect}
use Rattle.sw_value.specs.declared.effect.Effect.TheVariants as effect
use Rattle.sw_value.specs.declared.frame.Frame.{Frame}
use Rattle.sw_value.specs.declared.job.Job.{Job}
use Rattle.sw_value.specs.declared.state.State.{State}
use Rattle.sw_value.specs.declared.value.Value.{Value}
use Rattle.sw_value.specs.Act.{act_of}
use Rattle.sw_value.specs.Effect.{is_stuck}
use Rattle.sw_value.specs.Reach.{after_act, after_effect, step_of}
use Rattle.sw_value.specs.State.{in_job}
use Rattle.sw_value.proofs.ReachLemmas.{after_acts, step_by_act}
use Rattle.sw_color_rules.specs.declared.colors.Colors.{Colors}
use Rattle.sw_color_rules.specs.declared.plan.Plan.{Plan}
use Rattle.sw_color_rules.specs.Changes.{after_changes}
use Rattle.sw_color_rules.specs.Palette.{IsWhole}
use Rattle.sw_color_rules.specs.Plans.{effect_plan, next_color}
use Rattle.sw_color_rules.specs.Ranges.{AreBelow, AreMade}
use Rattle.sw_color_rules.proofs.PaletteLemmas.{changes_whole}
use Rattle.sw_partition.specs.Regions.{Regions}
use Rattle.sw_owner_facts.specs.Colours.{GlobalActor}
use Rattle.sw_owner_facts.specs.View.{Frame as Spot}
use Rattle.sw_view_facts.specs.Standing.{StandsAt}
use Rattle.sw_late_facts.specs.Carriers.{AwaitsActor, GoesToActor}
use Rattle.sw_late_facts.specs.Hues.{hue}
use Rattle.sw_late_facts.specs.Late.{Cargo, Late, carrier, cargo_by, deliveries, delivery}
use Rattle.sw_late_facts.specs.Late.{destination}
use Rattle.sw_late_facts.specs.Late.{destination_by, is_left, is_of, late_by, late_cargo}
use Rattle.sw_late_facts.specs.Late.{late_changes}
use Rattle.sw_late_facts.specs.Owners.{AreOfOtherJobs}
use Rattle.sw_late_facts.proofs.Cells.{changes_cells, changes_heres, merges_quiet}
use Rattle.sw_late_facts.proofs.Waiting.{others_stay, ready_dispatches}
use Rattle.sw_secure_facts.specs.Secure.{IsSecure}
use Rattle.sw_secure_job_facts.proofs.Jobs.{dispatches_stay, wakes_stay}
use Rattle.sw_sound_facts.proofs.Acting.{executes_at}
use Rattle.sw_hue_facts.specs.Hued.{hued, hues_of}
use Rattle.sw_hue_facts.specs.Tinted.{TintsFit}
use Rattle.sw_hue_facts.proofs.Retinted.{tints_merged}
use Rattle.sw_secure_late_facts.specs.LateSecure.{CargoFits, IsLateSecure}
use Rattle.sw_secure_late_facts.proofs.Acted.{goes_to, heir_is, plan_is, plan_lasts}
use Rattle.sw_secure_late_facts.proofs.Boarded.{boards}
use Rattle.sw_secure_late_facts.proofs.Delivering as delivering
use Rattle.sw_secure_late_facts.proofs.Growing.{made_fits}
use Rattle.sw_secure_late_facts.proofs.Lasting.{Lasts, cargo_lasts}
use Rattle.sw_secure_late_facts.proofs.Owning.{actor_below}
use Rattle.sw_secure_late_facts.proofs.Painted.{effects_stay}
use Rattle.sw_secure_late_facts.proofs.Planned.{plan_joins}
use Rattle.sw_secure_late_facts.proofs.Plans.{Gives}
use Rattle.sw_secure_late_facts.proofs.Same.{in_hues, may_unite_own}
use Rattle.sw_secure_late_facts.proofs.Turning.{PlanJoins, Renamed, hues_made, itself, plan_renamed}
use Rattle.sw_secure_late_facts.proofs.Turning.{tints_turned}

unstuck_is : (e : Effect) → (e ≡ effect.Stuck → ⊥) → is_stuck e ≡ false
unstuck_is effect.Stuck unstuck = absurd (unstuck refl)
unstuck_is _ unstuck = refl

module _ (graph : Graph) (states : ℕ → List (Option Regions)) (late : Late)
    (s : IsLateSecure graph states late) (awaits : All (AwaitsActor late.state late.colors)
    late.cargo)
    (goes : All (GoesToActor late.colors) late.cargo) (once : AllPairs AreOfOtherJobs late.cargo)
  where
    abbrev colors : Colors
    colors = late.colors

    abbrev EachFits : State → Colors → List Cargo → Type 0
    EachFits state after cargo = All (CargoFits graph states state after) cargo

    here_inside : (k : ℕ) (job : Job) → slice_get late.state.jobs k ≡ Some job → k < length
        colors.heres
    here_inside k job there =
        let low = slice_get_within late.state.jobs k job there in
        let count = s.secure.heres.jobs in
        omega (arith, low, count, length-map colors.heres (map (hue colors.palette)))

    module _ (j : ℕ) (act : Act) (acts : act_of graph late.state j ≡ Some act) where
      stepped : step_of graph late.state j ≡ after_act j act late.state
      stepped = step_by_act graph late.state j ∙ ap (λ o. after_acts j o late.state) acts

      -- a job that takes something along does nothing but be dispatched
      not_acting : (act ≡ Dispatch → ⊥) → (c : Cargo) → AwaitsActor late.state colors c → c.job ≢ j
      not_acting other c a e = other (ready_dispatches graph late.state j a.job act
          (ap (slice_get late.state.jobs) (sym e) ∙ a.there) a.ready acts)

      -- what another job takes along stays
      keeps : (after : Colors) → IsSecure graph states (step_of graph late.state j) (hued after)
          → TintsFit graph (step_of graph late.state j).cells after → (c : Cargo)
          → CargoFits graph states late.state colors c → GoesToActor colors c → c.job ≢ j
          → Lasts c.job colors after → CargoFits graph states (step_of graph late.state j) after c
      keeps after later tints c fits goes apart lasts =
          cargo_lasts graph states late.state (step_of graph late.state j) colors after s.made
          s.secure
          later s.tints tints c fits
          (ap (λ (t : State). slice_get t.jobs c.job) stepped
          ∙ others_stay j c.job act late.state fits.job apart fits.there) lasts goes.made
          goes.colors_made

    -- ---- an effect
    module _ (q : Spot) (job : Job) (f : Frame) (function : Function) (point : Point)
        (stands : StandsAt graph late.state q job f function point) (e : Effect)
        (gives : Gives graph states late s q job f function point stands e)
        (unstuck : is_stuck e ≡ false) (acts : act_of graph late.state q.job ≡ Some (Execute e))
      where
        abbrev plan : Plan
        plan = effect_plan graph colors q.job f point e

        abbrev to : Option ℕ
        to = destination_by colors f point e

        abbrev after : Colors
        after = after_changes (late_by q.job plan to) colors

        abbrev next : State
        next = step_of graph late.state q.job

        joins : PlanJoins q.job colors plan to
        joins = plan_joins graph states late s q job f function point stands e gives

        later : IsSecure graph states next (hued after)
        later = effects_stay graph states late s q job f function point stands e gives unstuck

        tints : TintsFit graph next.cells after
        tints = subst (λ (t : State). TintsFit graph t.cells after)
            (sym (stepped q.job (Execute e) acts))
            (tints_turned q.job colors plan to joins s.whole graph
            (after_effect q.job e late.state).cells
            (made_fits graph late.state s.secure.coloured.kinded colors s.whole s.made s.tints
            s.secure.memory.earlier q job f function point stands e gives))

        other : Execute e ≡ Dispatch → ⊥
        other same = let clash : ⊥ = cc in clash

        no_heir : (c : Cargo) → AwaitsActor late.state colors c → c.job ≢ carrier q.job plan.heir
        no_heir c a same =
            elim (heir_is graph states late s q job f function point stands e gives) [
              | inl own ↦ not_acting q.job (Execute e) acts other c a (same ∙ own)
              | inr new ↦ (let low = slice_get_within late.state.jobs c.job a.job a.there in
                  omega (arith, low, same, new))
            ]

        old_cargo : EachFits next after late.cargo
        old_cargo k d within =
            let c = get_or late.cargo k d in
            let a = awaits k d within in
            let apart = not_acting q.job (Execute e) acts other c a in
            keeps q.job (Execute e) acts after later tints c (s.cargo k d within) (goes k d within)
            apart
            (plan_lasts q.job c.job colors plan to joins s.whole apart (no_heir c a)
            (here_inside c.job a.job a.there))

        all_cargo : (o : Option ℕ) → to ≡ o → EachFits next after
            (late.cargo ++ cargo_by q.job plan o)
        all_cargo None is = subst (EachFits next after) (sym (append-nil late.cargo)) old_cargo
        all_cargo (Some a) is = All-push (CargoFits graph states next after) late.cargo _ old_cargo
            (boards graph states late s q job f function point stands e gives later a is)

        executed_so : AreMade after → IsLateSecure graph states
            (record { state = next; colors = after; cargo = late.cargo ++ cargo_by q.job plan to })
        executed_so made = record {
          whole = changes_whole (late_by q.job plan to) colors s.whole;
          made = made;
          globals = λ g few.
              let is = s.globals g few in
              let low = actor_below colors.palette s.whole g (GlobalActor g) is in
              (plan_renamed q.job colors plan to joins s.whole).actors g (GlobalActor g)
              (hues_made q.job plan colors s.whole g low ∙ is);
          tints = tints;
          cargo = all_cargo to refl;
          secure = later;
        }

        pub executed : AreMade (after_changes (late_changes graph late q.job (Execute e)) colors)
            → IsLateSecure graph states (record {
              state = next;
              colors = after_changes (late_changes graph late q.job (Execute e)) colors;
              cargo = late_cargo graph late q.job (Execute e);
            })
        executed =
            subst (λ p. AreMade (after_changes (late_by q.job p
            (destination graph late.state colors q.job (Execute e))) colors)
            → IsLateSecure graph states (record {
              state = next;
              colors = after_changes (late_by q.job p
                  (destination graph late.state colors q.job (Execute e))) colors;
              cargo = late.cargo
                  ++ cargo_by q.job p (destination graph late.state colors q.job (Execute e));
            })) (sym (plan_is graph states late s q job f function point stands e))
            (subst (λ o. AreMade (after_changes (late_by q.job plan o) colors)
            → IsLateSecure graph states (record {
              state = next;
              colors = after_changes (late_by q.job plan o) colors;
              cargo = late.cargo ++ cargo_by q.job plan o;
            })) (sym (goes_to graph states late s q job f function point stands e)) executed_so)

    -- ---- a job that goes on with the result of another
    module _ (j ended r : ℕ) (v : Value) (acts : act_of graph late.state j ≡ Some (Wake ended r v))
      where
        unchanged : (k : ℕ) → Lasts k colors colors
        unchanged k = record {
          actors = λ n a low is. is;
          fixed = λ n m low is. is;
          back = λ n m low is. is;
          more = [];
          cells = sym (append-nil colors.cells);
          heres = refl;
        }

        woken_tints : TintsFit graph (step_of graph late.state j).cells colors
        unfolding in_job
        woken_tints = subst (λ (t : State). TintsFit graph t.cells colors)
            (sym (stepped j (Wake ended r v) acts)) s.tints

        woken_secure : IsSecure graph states (step_of graph late.state j) (hued colors)
        woken_secure = wakes_stay graph states late.state (hued colors) j ended r v s.secure acts

        woken_cargo : EachFits (step_of graph late.state j) colors late.cargo
        woken_cargo k d within =
            let c = get_or late.cargo k d in
            keeps j (Wake ended r v) acts colors woken_secure woken_tints c (s.cargo k d within)
            (goes k d within)
            (not_acting j (Wake ended r v) acts (λ same. let clash : ⊥ = cc in clash) c
            (awaits k d within))
            (unchanged c.job)

        pub woken : IsLateSecure graph states (record {
          state = step_of graph late.state j;
          colors = after_changes (late_changes graph late j (Wake ended r v)) colors;
          cargo = late_cargo graph late j (Wake ended r v);
        })
        woken = record {
          whole = s.whole;
          made = s.made;
          globals = s.globals;
          tints = woken_tints;
          cargo = subst (EachFits (step_of graph late.state j) colors) (sym (append-nil late.cargo))
              woken_cargo;
          secure = woken_secure;
        }

    -- ---- a job that gets its executor
    module _ (j : ℕ) (acts : act_of graph late.state j ≡ Some Dispatch) where
      -- the colours once what the job takes along is delivered
      record Arrives (after : Colors) : Type 0 where
        whole : IsWhole after.palette
        tints : TintsFit graph late.state.cells after
        secure : IsSecure graph states late.state (hued after)
        renamed : Renamed j j colors.palette after.palette
        cells : after.cells ≡ colors.cells
        heres : after.heres ≡ colors.heres

      one_arrives : (c : Cargo) → CargoFits graph states late.state colors c → GoesToActor colors c
          → c.job ≡ j → Arrives (after_changes (delivery c) colors)
      one_arrives c fits goes own =
          let numbers : List ℕ = c.actor ∷ c.colors in
          let below : AreBelow (next_color colors) numbers =
          All-cons (λ n. n < next_color colors) c.actor c.colors goes.made goes.colors_made in
          let may = delivering.may graph states late.state colors s.whole s.secure c fits below in
          let q = delivering.q graph states late.state colors s.whole s.secure c fits below in
          record {
            whole = changes_whole (delivery c) colors s.whole;
            tints = tints_merged graph late.state.cells q c.actor c.colors colors s.whole below may
                (λ m has. may_unite_own q (hues_of colors.palette numbers) may
                (hue colors.palette m)
                (in_hues colors.palette numbers m has)) s.tints;
            secure = delivering.delivered_secure graph states late.state colors s.whole s.secure c
                fits below;
            renamed = subst (λ k. Renamed k k colors.palette
                (after_changes (delivery c) colors).palette) own
                (delivering.delivered_renamed graph states late.state colors s.whole s.secure c fits
                below);
            cells = changes_cells (delivery c) colors ∙ (merges_quiet numbers).cells colors.cells;
            heres = changes_heres (delivery c) colors ∙ (merges_quiet numbers).heres colors.heres;
          }

      own_job : (es : List Cargo) → filter (is_of j) late.cargo ≡ es → (k : ℕ) (d : Cargo)
          → k < length es → (get_or es k d).job ≡ j
      own_job es is k d within = eqb-true (get_or es k d).job j
          (subst (λ (l : List Cargo). is_of j (get_or l k d) ≡ true) is
          (filter_passes (is_of j) late.cargo k d (subst (λ (l : List Cargo). k < length l) (sym is)
          within)))

      arrives : (es : List Cargo) → filter (is_of j) late.cargo ≡ es
          → Arrives (after_changes (deliveries es) colors)
      arrives [] is = record {
        whole = s.whole;
        tints = s.tints;
        secure = s.secure;
        renamed = itself j j colors.palette;
        cells = refl;
        heres = refl;
      }
      arrives (c ∷ []) is =
          subst (λ l. Arrives (after_changes l colors)) (sym (append-nil (delivery c)))
          (one_arrives c
          (All-head (CargoFits graph states late.state colors) c []
          (subst (All (CargoFits graph states late.state colors)) is
          (All-filter (is_of j) (CargoFits graph states late.state colors) late.cargo s.cargo)))
          (All-head (GoesToActor colors) c []
          (subst (All (GoesToActor colors)) is (All-filter (is_of j) (GoesToActor colors) late.cargo
          goes)))
          (own_job (c ∷ []) is 0 c (omega arith)))
      arrives (c ∷ d ∷ more) is =
          let apart = subst (AllPairs AreOfOtherJobs) is
          (AllPairs-filter AreOfOtherJobs (is_of j) late.cargo once) in
          absurd (apart 0 1 c (omega arith) (omega arith)
          (own_job (c ∷ d ∷ more) is 0 c (omega arith) ∙ sym
          (own_job (c ∷ d ∷ more) is 1 c (omega arith))))

      abbrev delivered : Colors
      delivered = after_changes (deliveries (filter (is_of j) late.cargo)) colors

      arrived : Arrives delivered
      arrived = arrives (filter (is_of j) late.cargo) refl

      arrived_secure : IsSecure graph states (step_of graph late.state j) (hued delivered)
      arrived_secure = dispatches_stay graph states late.state (hued delivered) j arrived.secure
          acts

      arrived_tints : TintsFit graph (step_of graph late.state j).cells delivered
      unfolding in_job
      arrived_tints = subst (λ (t : State). TintsFit graph t.cells delivered)
          (sym (stepped j Dispatch acts)) arrived.tints

      left_lasts : (k : ℕ) → k ≢ j → Lasts k colors delivered
      left_lasts k apart = record {
        actors = λ n a low is. arrived.renamed.actors n a is;
        fixed = λ n m low is. arrived.renamed.fixed n k m apart apart is;
        back = λ n m low is. arrived.renamed.back n k m apart apart is;
        more = [];
        cells = arrived.cells ∙ sym (append-nil colors.cells);
        heres = ap (λ (l : List (List ℕ)). slice_get l k) arrived.heres;
      }

      not_own : (c : Cargo) → is_left j c ≡ true → c.job ≢ j
      not_own c left same =
          let clash : false ≡ true = sym (ap not (eq-eqb c.job j same)) ∙ left in
          let wrong : ⊥ = cc in wrong

      left_cargo : EachFits (step_of graph late.state j) delivered (filter (is_left j) late.cargo)
      left_cargo k d within =
          let c = get_or (filter (is_left j) late.cargo) k d in
          let apart = not_own c (filter_passes (is_left j) late.cargo k d within) in
          keeps j Dispatch acts delivered arrived_secure arrived_tints c
          (All-filter (is_left j) (CargoFits graph states late.state colors) late.cargo s.cargo k d
          within)
          (All-filter (is_left j) (GoesToActor colors) late.cargo goes k d within) apart
          (left_lasts c.job apart)

      pub dispatched : AreMade delivered → IsLateSecure graph states (record {
        state = step_of graph late.state j;
        colors = after_changes (late_changes graph late j Dispatch) colors;
        cargo = late_cargo graph late j Dispatch;
      })
      dispatched made = record {
        whole = arrived.whole;
        made = made;
        globals = λ g few. arrived.renamed.actors g (GlobalActor g) (s.globals g few);
        tints = arrived_tints;
        cargo = left_cargo;
        secure = arrived_secure;
      }

    -- ---- each act
    pub acted : (j : ℕ) (act : Act) → act_of graph late.state j ≡ Some act
        → AreMade (after_changes (late_changes graph late j act) colors)
        → IsLateSecure graph states (record {
          state = step_of graph late.state j;
          colors = after_changes (late_changes graph late j act) colors;
          cargo = late_cargo graph late j act;
        })
    acted j Dispatch acts = dispatched j acts
    acted j (Wake ended r v) acts = λ made. woken j ended r v acts
    acted j (Execute e) acts =
        let at = executes_at graph late.state j e acts in
        subst (λ k. AreMade (after_changes (late_changes graph late k (Execute e)) colors)
        → IsLateSecure graph states (record {
          state = step_of graph late.state k;
          colors = after_changes (late_changes graph late k (Execute e)) colors;
          cargo = late_cargo graph late k (Execute e);
        })) at.is_job
        (executed at.q at.job at.frame at.function at.point at.stands e at.gives
        (unstuck_is e at.unstuck) (ap (act_of graph late.state) at.is_job ∙ acts))
