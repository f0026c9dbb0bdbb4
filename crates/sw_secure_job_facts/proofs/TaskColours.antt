-- The view stays sound where the colours of what a task is given become those of its job.
use Rattle.std.specs.Option.{option_map, option_map_or}
use Rattle.std.specs.List.{slice_get}
use Rattle.std.proofs.Common.{◌≡◌, ◌≢◌, ◌<◌, ℕ, Option, Some, None, List, [], ◌∷◌, ◌++◌, length}
use Rattle.std.proofs.Common.{map, cond, Contains, refl, sym, subst, ap, ◌∙◌, arith, inl, inr}
use Rattle.std.proofs.lemmas.List.{map-append}
use Rattle.std.proofs.lemmas.Option.{slice_get_within}
use Rattle.sw_graph.specs.declared.function.Function.{Function}
use Rattle.sw_graph.specs.declared.graph.Graph.{Graph}
use Rattle.sw_value.specs.declared.frame.Frame.{Frame}
use Rattle.sw_value.specs.declared.job.Job.{Job}
use Rattle.sw_value.specs.declared.state.State.{State}
use Rattle.sw_partition.specs.Regions.{Regions}
use Rattle.sw_owner_facts.specs.Colours.{Actor, Colour, OfActor, OfJob}
use Rattle.sw_owner_facts.specs.Owned.{IsSound}
use Rattle.sw_owner_facts.specs.View.{Element, Here, HoldsLive, IsFrame, IsUnheld, View}
use Rattle.sw_owner_facts.specs.View.{Frame as Spot}
use Rattle.sw_owner_facts.proofs.WithinLemmas.{given_is_disconnected, weakened}
use Rattle.sw_region_facts.specs.FrameRegions.{IsWeaker, LiveIn}
use Rattle.sw_region_facts.specs.Moves.{Sends}
use Rattle.sw_view_facts.specs.Changes.{HoldsIn}
use Rattle.sw_view_facts.specs.Memory.{coloured_more}
use Rattle.sw_view_facts.specs.Renaming.{HasHere, MayUnite, recoloured_by, united}
use Rattle.sw_view_facts.specs.Views.{Colours, annotated, here_at, over, view_of}
use Rattle.sw_view_facts.proofs.EffectLemmas.{over_other, over_there}
use Rattle.sw_view_facts.proofs.RenameLemmas.{hands_over, unites_all}
use Rattle.sw_view_facts.proofs.StepLemmas.{regions_give, regions_weaken}
use Rattle.sw_view_facts.proofs.TopLemmas.{height_is, nothing_above}
use Rattle.sw_store_facts.proofs.Holding.{holds_live, one_region}
use Rattle.sw_secure_facts.specs.Painting.{PaintsTask, handed, joined_by_task, passed, with_job}
use Rattle.sw_secure_facts.specs.Secure.{HeresFit}
use Rattle.sw_secure_facts.proofs.Heres.{have_heres}
use Rattle.sw_secure_facts.proofs.Recoloured.{heres_recoloured, heres_united}
use Rattle.sw_secure_facts.proofs.Uniting.{actors_stay, joined_become, joins_kept, kept_stays}
use Rattle.sw_secure_facts.proofs.Uniting.{others_stay, united_colour, united_is}
use Rattle.sw_secure_job_facts.proofs.Captured.{first_in, later_in}
use Rattle.sw_secure_job_facts.proofs.Carried.{given_held, held_before, stands_before}
use Rattle.sw_secure_job_facts.proofs.Carried.{still_open, top_there}
use Rattle.sw_secure_job_facts.proofs.Handing.{handed_actor, handed_cases, handed_colour}
use Rattle.sw_secure_job_facts.proofs.Handing.{handed_given}
use Rattle.sw_secure_job_facts.proofs.Handing.{handed_is, handed_sound, same_renaming, twice}
use Rattle.sw_secure_job_facts.proofs.Making.{MakesTask, Shares, elements, here, shares_or_sends}
use Rattle.sw_secure_job_facts.proofs.Making.{xs}
use Rattle.sw_secure_job_facts.proofs.TaskPaints.{begun, begun_is, carried_to, not_made}

module _ (graph : Graph) (states : ℕ → List (Option Regions)) (state : State) (colours : Colours)
    (q : Spot) (job : Job) (f : Frame) (function : Function) (r : ℕ) (frame : Frame)
    (m : MakesTask graph states state colours q job f function r frame) (number : ℕ)
    (after : Colours)
    (u : PaintsTask state colours q.job (length state.jobs) number f frame
    (with_job (begun graph states state colours q job f function r frame m number)
    (coloured_more None colours)) after) where
  abbrev made : ℕ
  made = length state.jobs

  abbrev first : Colour
  first = begun graph states state colours q job f function r frame m number

  apart : q.job ≢ made
  apart = not_made graph states state colours q job f function r frame m number

  -- ---- what becomes of a colour
  abbrev pub renamed : Colour → Colour
  renamed c = united_colour made u.unites.numbers u.unites.kept
      (handed_colour q.job made u.given c)

  pub renamed_actor : (owner : Actor) → renamed (OfActor owner) ≡ OfActor owner
  renamed_actor owner =
      ap (united_colour made u.unites.numbers u.unites.kept) (handed_actor q.job made u.given owner)
      ∙ actors_stay made u.unites.numbers u.unites.kept owner

  -- the colours of before, renamed
  abbrev pub renewed : Colours
  renewed = recoloured_by renamed colours

  renewed_is : (cs : Colours)
      → united made u.unites.numbers u.unites.kept (handed q.job made u.given cs)
      ≡ recoloured_by renamed cs
  renewed_is cs =
      united_is made u.unites.numbers u.unites.kept (handed q.job made u.given cs)
      ∙ ap (recoloured_by (united_colour made u.unites.numbers u.unites.kept))
      (handed_is q.job made u.given cs)
      ∙ twice (united_colour made u.unites.numbers u.unites.kept)
      (handed_colour q.job made u.given) cs

  -- and with the new job's
  pub after_is : after ≡ with_job (renamed first) (coloured_more None renewed)
  after_is = u.unites.is ∙ renewed_is (with_job first (coloured_more None colours))
      ∙ ap (λ (cs : List (Option Colour)). record {
        cells = cs;
        heres = map (map renamed) (colours.heres ++ (first ∷ []) ∷ []);
      }) (map-append (option_map renamed) colours.cells (None ∷ []))
      ∙ ap (λ (hs : List (List Colour)). record {
        cells = map (option_map renamed) colours.cells ++ None ∷ [];
        heres = hs;
      }) (map-append (map renamed) colours.heres ((first ∷ []) ∷ []))

  -- ---- the view in the state after the instruction's operations
  abbrev a : Regions
  a = (here graph states state colours q job f function r frame m).a

  abbrev c : Regions
  c = (here graph states state colours q job f function r frame m).c

  abbrev registered : List (Option ℕ)
  registered = elements graph states state colours q job f function r frame m

  abbrev tracked_ones : List Element
  tracked_ones = xs graph states state colours q job f function r frame m

  abbrev pub regions : Spot → Option Regions
  regions = over (annotated states state) q c

  abbrev old : View
  old = view_of graph (annotated states state) state colours

  abbrev pub view : Colours → View
  view cs = view_of graph regions state cs

  stands : regions q ≡ Some c
  stands = over_there (annotated states state) q c

  before : annotated states state q ≡ Some a
  before = stands_before graph states state colours q job f function r frame m

  weakens : IsWeaker registered a c → IsSound (view colours)
  weakens weaker = weakened old (view colours) m.secure.coloured.sound
      (regions_weaken graph (annotated states state) regions state colours q job f m.stands.top
      function m.stands.is a c before stands (λ p differ. over_other (annotated states state) q c p
      differ) weaker)

  heres : (p : Spot) → IsFrame (view colours) p → HasHere colours p
  heres = have_heres graph states state colours m.secure.heres

  -- no frame holds a colour of the job that is yet to be made
  pub none_made : (cs : Colours) → IsSound (view cs) → (n : ℕ)
      → IsUnheld (view cs) (OfJob made n)
  none_made cs sound n p y held = by (slice_get state.jobs p.job) refl held.frame where
    own : made ≡ p.job
    own = sound.owned.owned held

    by : (o : Option Job) → slice_get state.jobs p.job ≡ o
        → p.depth < option_map_or (λ (k : Job). length k.frames) o 0 → ⊥
    by None at inside = omega (arith, inside)
    by (Some k) at inside = let within = slice_get_within state.jobs p.job k at in
        omega (arith, within, own)

  finish : (cs : Colours) → ((p : Spot) → IsFrame (view cs) p → HasHere cs p) → IsSound (view cs)
      → IsSound (view (united made u.unites.numbers u.unites.kept cs))
  finish cs has sound = hands_over graph regions state made u.unites.kept u.unites.numbers cs has
      (λ n among. none_made cs sound n) sound

  -- ---- what is given away
  sends_sound : Sends registered tracked_ones a c → IsSound (view renewed)
  sends_sound s =
      subst (λ cs. IsSound (view cs)) (renewed_is colours)
      (finish (handed q.job made u.given colours)
      (have_heres graph states state (handed q.job made u.given colours)
      (subst (HeresFit state) (sym (handed_is q.job made u.given colours))
      (heres_recoloured graph state (handed_colour q.job made u.given) colours
      (handed_actor q.job made u.given) m.secure.heres)))
      (handed_sound graph regions state q.job made u.given colours apart heres none
      (weakens s.weaker)))
    where
      none : (n : ℕ) → Contains u.given n → IsUnheld (view colours) (OfJob q.job n)
      none n has =
          let held = given_held graph states state colours q job f function r frame m
          (OfJob q.job n) (u.only n has) in
          let sent = s.sent held.element held.among in
          (given_is_disconnected old (view colours) q held.element m.secure.coloured.sound
          (regions_give graph (annotated states state) regions state colours q job f m.stands.top
          function m.stands.is a c before stands (λ p differ. over_other (annotated states state) q
          c p differ) s.weaker held.element sent) (OfJob q.job n)
          (held_before graph states state colours q job f function r frame m held.element
          (OfJob q.job n) sent.used held.holds)).unheld

  -- ---- what the actor keeps
  module _ (s : Shares graph states state colours q job f function r frame m) where
    first_is : first ≡ OfActor s.actor
    first_is = begun_is graph states state colours q job f function r frame m number s.actor s.on

    joined_is : joined_by_task state (handed q.job made u.given colours) made number f frame
        ≡ first ∷ passed state (handed q.job made u.given colours) [] frame.regs
    joined_is = ap (λ b. cond b []
        (first ∷ passed state (handed q.job made u.given colours) [] frame.regs)) s.stays

    listed : (d : Colour)
        → Contains (first ∷ passed state (handed q.job made u.given colours) [] frame.regs) d
        → Contains (joined_by_task state (handed q.job made u.given colours) made number f frame) d
    listed d has = subst (λ l. Contains l d) (sym joined_is) has

    -- the colour that is kept is the actor's
    kept_is : u.unites.kept ≡ OfActor s.actor
    kept_is = elim (u.unites.others first (listed first (first_in first
        (passed state (handed q.job made u.given colours) [] frame.regs)))) [
          | inl same ↦ sym same ∙ first_is
          | inr (n, has, is) ↦
              let clash : OfActor s.actor ≡ OfJob made n = sym first_is ∙ is in
              absurd (let z : ⊥ = cc in z)
        ]

    -- what is given becomes it
    becomes_kept : (n : ℕ) → Contains u.given n
        → united_colour made u.unites.numbers u.unites.kept (OfJob made n) ≡ u.unites.kept
    becomes_kept n has =
        joined_become made
        (joined_by_task state (handed q.job made u.given colours) made number f frame)
        (handed q.job made u.given (with_job first (coloured_more None colours))) after u.unites
        (OfJob made n) (listed (OfJob made n) (later_in first
        (passed state (handed q.job made u.given colours) [] frame.regs) (OfJob made n)
        (subst (λ d. Contains (passed state (handed q.job made u.given colours) [] frame.regs) d)
        (handed_given q.job made u.given n apart has)
        (carried_to graph states state colours q job f function r frame m number u.given
        (OfJob q.job n) (u.only n has)))))

    agree : (d : Colour) → united_colour made u.unites.numbers u.unites.kept
        (united_colour q.job u.given u.unites.kept d) ≡ renamed d
    agree d = elim (handed_cases q.job made u.given d apart) [
      | inr (n, has, is) ↦
          ap (λ e. united_colour made u.unites.numbers u.unites.kept
          (united_colour q.job u.given u.unites.kept e)) is
          ∙ ap (united_colour made u.unites.numbers u.unites.kept)
          (joins_kept q.job u.given u.unites.kept n has)
          ∙ kept_stays made u.unites.numbers u.unites.kept
          ∙ sym (ap (λ e. renamed e) is
          ∙ ap (united_colour made u.unites.numbers u.unites.kept)
          (handed_given q.job made u.given n apart has) ∙ becomes_kept n has)
      | inl stays ↦
          ap (united_colour made u.unites.numbers u.unites.kept)
          (others_stay q.job u.given u.unites.kept d (λ n has is.
          let same : OfJob made n ≡ OfJob q.job n =
          sym (handed_given q.job made u.given n apart has)
          ∙ ap (handed_colour q.job made u.given) (sym is) ∙ stays ∙ is in
          apart (let e : q.job ≡ made = cc in e)) ∙ sym stays)
    ]

    both_united : united made u.unites.numbers u.unites.kept
        (united q.job u.given u.unites.kept colours) ≡ renewed
    both_united =
        united_is made u.unites.numbers u.unites.kept (united q.job u.given u.unites.kept colours)
        ∙ ap (recoloured_by (united_colour made u.unites.numbers u.unites.kept))
        (united_is q.job u.given u.unites.kept colours)
        ∙ twice (united_colour made u.unites.numbers u.unites.kept)
        (united_colour q.job u.given u.unites.kept) colours
        ∙ same_renaming (λ d. united_colour made u.unites.numbers u.unites.kept
        (united_colour q.job u.given u.unites.kept d)) renamed colours agree

    holds_now : (y : Element) (d : Colour) → LiveIn registered c y
        → HoldsIn state colours f (here_at colours q) y d → HoldsLive (view colours) q y d
    holds_now = holds_live graph state colours q f function
        (top_there graph states state colours q job f function r frame m) m.stands.is
        (nothing_above state q job f m.stands.top) (height_is state q job f m.stands.top)
        (still_open graph states state colours q job f function r frame m) regions c stands

    may : (n : ℕ) → Contains u.given n → MayUnite (view colours) q Here u.unites.kept n
    may n has =
        let held = given_held graph states state colours q job f function r frame m
        (OfJob q.job n) (u.only n has) in
        let among = later_in Here tracked_ones held.element held.among in
        inr (inr (
          held.element,
          holds_now held.element (OfJob q.job n) (s.gathers.still held.element among) held.holds,
          one_region graph state colours q f function
              (top_there graph states state colours q job f function r frame m) m.stands.is
              (nothing_above state q job f m.stands.top) (height_is state q job f m.stands.top)
              (still_open graph states state colours q job f function r frame m) regions c stands
              held.element Here (s.gathers.together held.element Here among
              (first_in Here tracked_ones)),
        ))

    shares_sound : IsSound (view renewed)
    shares_sound =
        subst (λ cs. IsSound (view cs)) both_united
        (finish (united q.job u.given u.unites.kept colours)
        (have_heres graph states state (united q.job u.given u.unites.kept colours)
        (heres_united graph state q.job u.given u.unites.kept colours m.secure.heres))
        (unites_all graph regions state q Here u.unites.kept u.given colours heres
        (height_is state q job f m.stands.top)
        (holds_now Here u.unites.kept tt (s.here_is ∙ sym kept_is)) may
        (weakens s.gathers.uses.weaker)))

  -- where the instruction's operations are done and the colours are renamed
  pub renewed_sound : IsSound (view renewed)
  renewed_sound = elim (shares_or_sends graph states state colours q job f function r frame m) [
    | inl shares ↦ shares_sound shares
    | inr sends ↦ sends_sound sends
  ]
