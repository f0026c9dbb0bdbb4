-- What a job takes to an actor becomes the actor's: the state stays secure by hue.
use Rattle.std.proofs.Common.{◌≡◌, ◌⊎◌, ◌<◌, ◌-◌, ℕ, zero, suc, Bool, true, false, Option, Some}
use Rattle.std.proofs.Common.{None, List, [], ◌∷◌}
use Rattle.std.proofs.Common.{length, Contains, IsTrue, refl, sym, subst, ap, ◌∙◌, arith, inl, inr}
use Rattle.std.specs.List.{slice_get}
use Rattle.std.proofs.lemmas.Bool.{cases_eq}
use Rattle.std.proofs.lemmas.List.Elements.{Contains-append_left}
use Rattle.std.proofs.lemmas.Option.{slice_get_within}
use Rattle.sw_list.proofs.Members.{first_or_later, in_one, none_in}
use Rattle.sw_graph.specs.declared.function.Function.{Function}
use Rattle.sw_graph.specs.declared.graph.Graph.{Graph}
use Rattle.sw_graph.specs.Points.{point_in}
use Rattle.sw_graph.specs.Sure.{point_before}
use Rattle.sw_value.specs.declared.executor.Executor.{Executor}
use Rattle.sw_value.specs.declared.executor.Executor.TheVariants as executor
use Rattle.sw_value.specs.declared.state.State.{State}
use Rattle.sw_value.specs.declared.value.Value.{Value}
use Rattle.sw_value.specs.Job.{top_frame}
use Rattle.sw_color_rules.specs.declared.colors.Colors.{Colors}
use Rattle.sw_color_rules.specs.Changes.{after_changes}
use Rattle.sw_color_rules.specs.Palette.{IsWhole}
use Rattle.sw_color_rules.specs.Plans.{merges, next_color}
use Rattle.sw_color_rules.specs.Ranges.{AreBelow}
use Rattle.sw_partition.specs.Regions.{Regions}
use Rattle.sw_owner_facts.specs.Colours.{Actor, Colour, OfActor, OfJob, On}
use Rattle.sw_owner_facts.specs.Owned.{IsSound}
use Rattle.sw_owner_facts.specs.View.{Element, FrameShape, Here, HoldsLive, IsFrame, IsolatedTo}
use Rattle.sw_owner_facts.specs.View.{IsTop, Register, View, Frame as Spot}
use Rattle.sw_owner_facts.proofs.FrameLemmas.{same_frame}
use Rattle.sw_view_facts.specs.Renaming.{MayUnite, united}
use Rattle.sw_view_facts.specs.Steps.{TopAt}
use Rattle.sw_view_facts.specs.Views.{annotated, closes, colours_by, frame_at, frame_under}
use Rattle.sw_view_facts.specs.Views.{function_of}
use Rattle.sw_view_facts.specs.Views.{shape_by, shape_with, stands_on, view_at}
use Rattle.sw_view_facts.proofs.RenameLemmas.{of_map, unites_all}
use Rattle.sw_view_facts.proofs.TopLemmas.{frame_was, height_is}
use Rattle.sw_late_facts.specs.Hues.{hue}
use Rattle.sw_late_facts.specs.Late.{Cargo, delivery}
use Rattle.sw_secure_facts.specs.Painting as painting
use Rattle.sw_secure_facts.specs.Painting.{Unites, actor_on}
use Rattle.sw_secure_facts.specs.Secure.{IsSecure}
use Rattle.sw_secure_facts.proofs.Heres.{have_heres}
use Rattle.sw_secure_facts.proofs.Secured.{secure_united}
use Rattle.sw_secure_job_facts.proofs.Frames.{function_at}
use Rattle.sw_hue_facts.specs.Hued.{hued, hues_of}
use Rattle.sw_hue_facts.proofs.Colours.{cases_among}
use Rattle.sw_secure_late_facts.specs.LateSecure.{CargoFits}
use Rattle.sw_secure_late_facts.proofs.Joining.{numbers_unite}
use Rattle.sw_secure_late_facts.proofs.Turning.{Renamed, merges_renamed}

-- an executor that is an actor's stands on that
actor_stands : (e : Executor) (a : Actor) → actor_on e ≡ Some a → stands_on e ≡ On a
actor_stands executor.Generic a is = cc
actor_stands (executor.ActorOf c) a is = cc
actor_stands (executor.Global g) a is = cc

module _ (graph : Graph) (states : ℕ → List (Option Regions)) (state : State) (colors : Colors)
    (whole : IsWhole colors.palette) (secure : IsSecure graph states state (hued colors))
    (cargo : Cargo) (fits : CargoFits graph states state colors cargo)
    (below : AreBelow (next_color colors) (cargo.actor ∷ cargo.colors)) where
  abbrev pub q : Spot
  q = record { job = cargo.job; depth = length fits.job.frames - 1 }

  abbrev w : View
  w = view_at graph states state (hued colors)

  abbrev numbers : List ℕ
  numbers = cargo.actor ∷ cargo.colors

  abbrev hues : List Colour
  hues = hues_of colors.palette numbers

  top_is : slice_get fits.job.frames (length fits.job.frames - 1) ≡ Some fits.frame
  unfolding top_frame
  top_is = fits.top

  at : TopAt state q fits.job fits.frame
  at = record {
    there = fits.there;
    top = top_is;
    height = let inside = slice_get_within fits.job.frames (length fits.job.frames - 1) fits.frame
        top_is in
        omega (arith, inside);
  }

  there : frame_at state q ≡ Some fits.frame
  there = frame_was state q fits.job fits.frame at

  height : IsTop w q
  height = height_is state q fits.job fits.frame at

  inside : IsFrame w q
  inside = let h = height in omega (arith, h)

  body : (function : Function) × (slice_get graph.functions fits.frame.function ≡ Some function)
  body = function_at graph states state (hued colors) secure.coloured q fits.frame there

  abbrev under : Option Function
  under = function_of graph (frame_under state q.job q.depth)

  shape_is : w.shape q ≡ shape_with graph under fits.frame (Some body.0)
  shape_is = ap (shape_by graph under) there ∙ ap (shape_with graph under fits.frame) body.1

  not_closing : (w.shape q).closing ≡ false
  not_closing = ap (λ (s : FrameShape). s.closing) shape_is
      ∙ ap (λ n. closes graph body.0 (point_in body.0 n) (point_before body.0 n)) fits.entry

  executor_is : (w.shape q).executor ≡ On fits.actor
  executor_is = ap (λ (s : FrameShape). s.executor) shape_is
      ∙ actor_stands fits.frame.executor fits.actor fits.on

  isolated : (w.shape q).isolation ≡ IsolatedTo fits.actor
  isolated = secure.coloured.sound.stacked.entered q inside (entered fits.entered) executor_is where
    entered : (length fits.job.frames ≡ 1) ⊎ (fits.frame.crossing ≡ true)
        → (q.depth ≡ zero) ⊎ ((w.shape q).crossing ≡ true)
    entered (inl one) = inl (omega (arith, one))
    entered (inr crosses) = inr (ap (λ (s : FrameShape). s.crossing) shape_is ∙ crosses)

  holds_here : HoldsLive w q Here (OfActor fits.actor)
  holds_here = record {
    frame = inside;
    not_closing = not_closing;
    live = tt;
    holds = secure.coloured.sound.owned.isolated q inside isolated;
  }

  -- ---- each of the hues is the actor's or the job's
  IsTaken : Colour → Type 0
  IsTaken c = (c ≡ OfActor fits.actor) ⊎ ((n : ℕ) × (m : ℕ) × Contains cargo.colors n
      × (hue colors.palette n ≡ OfJob cargo.job m) × (c ≡ OfJob cargo.job m))

  taken : (c : Colour) → Contains hues c → IsTaken c
  unfolding IsTaken
  taken c has =
      let number = of_map (hue colors.palette) numbers c has in
      elim (first_or_later cargo.actor cargo.colors number.0 number.1) [
        | inl same ↦ inl (sym number.2 ∙ ap (hue colors.palette) (sym same) ∙ fits.is)
        | inr later ↦
            let own = fits.owned number.0 later in
            inr (number.0, own.0, later, own.1, sym number.2 ∙ own.1)
      ]

  actor_among : Contains hues (OfActor fits.actor)
  actor_among = subst (Contains hues) fits.is
      (Contains-append_left (hue colors.palette cargo.actor ∷ [])
      (hues_of colors.palette cargo.colors)
      (hue colors.palette cargo.actor) (in_one (hue colors.palette cargo.actor)))

  pub may : painting.MayUnite q hues
  unfolding IsTaken
  may = inr (
    OfActor fits.actor,
    actor_among,
    (λ c has. elim (taken c has) [
      | inl is ↦ inl is
      | inr (n, m, among, is, same) ↦ inr (m, same)
    ]),
    inl (fits.actor, refl),
  )

  united_is : Unites q.job hues (hued colors) (hued (after_changes (merges numbers) colors))
  united_is = numbers_unite q numbers colors whole below may

  -- the actor's colour is kept
  kept_is : united_is.kept ≡ OfActor fits.actor
  kept_is = elim (united_is.others (OfActor fits.actor) actor_among) [
    | inl same ↦ sym same
    | inr (n, has, is) ↦ absurd (let clash : ⊥ = cc in clash)
  ]

  -- ---- what the top frame holds
  abbrev live : ℕ → Bool
  live = w.live q

  -- one of the first registers holds the colour, or none does
  search : (c : Colour) (n : ℕ) → ((r : ℕ) × IsTrue (live r) × Contains (w.colours q r) c)
      ⊎ ((r : ℕ) → r < n → IsTrue (live r) → Contains (w.colours q r) c → ⊥)
  search c zero = inr (λ r low. absurd (omega (arith, low)))
  search c (suc n) = elim (search c n) [
    | inl found ↦ inl found
    | inr none ↦ by (live n) refl (cases_among c (w.colours q n)) none
  ]
    where
      before : (r : ℕ) → r < suc n → (r ≡ n → ⊥) → r < n
      before r low differ = let x : r < n = omega (arith, low, differ) in x

      by : (b : Bool) → live n ≡ b → Contains (w.colours q n) c ⊎ (Contains (w.colours q n) c → ⊥)
          → ((r : ℕ) → r < n → IsTrue (live r) → Contains (w.colours q r) c → ⊥)
          → ((r : ℕ) × IsTrue (live r) × Contains (w.colours q r) c)
          ⊎ ((r : ℕ) → r < suc n → IsTrue (live r) → Contains (w.colours q r) c → ⊥)
      by true is (inl has) none = inl (n, is, has)
      by true is (inr lacks) none = inr (λ r low on has. elim (cases_eq r n) [
        | inl same ↦ lacks (subst (λ k. Contains (w.colours q k) c) same has)
        | inr differ ↦ none r (before r low differ) on has
      ])
      by false is _ none = inr (λ r low on has. elim (cases_eq r n) [
        | inl same ↦ (let clash : false ≡ true = sym is ∙ ap live (sym same) ∙ on in
            let no : ⊥ = cc in no)
        | inr differ ↦ none r (before r low differ) on has
      ])

  -- a register past the last holds nothing
  holds_within : (r : ℕ) (c : Colour) → Contains (w.colours q r) c → r < length fits.frame.regs
  holds_within r c has = by (slice_get fits.frame.regs r) refl
      (subst (λ l. Contains l c) (ap (λ o. colours_by state (hued colors) o r) there) has) where
        by : (o : Option (Option Value)) → slice_get fits.frame.regs r ≡ o
            → Contains (colours_by state (hued colors) (Some fits.frame) r) c
            → r < length fits.frame.regs
        by (Some v) is has = slice_get_within fits.frame.regs r v is
        by None is has = absurd (none_in c (subst (λ l. Contains l c) (nothing is) has)) where
          nothing : slice_get fits.frame.regs r ≡ None
              → colours_by state (hued colors) (Some fits.frame) r ≡ []
          nothing is = cc

  -- what the job takes may become the actor's
  takes : (n m : ℕ) → Contains cargo.colors n → hue colors.palette n ≡ OfJob cargo.job m
      → MayUnite w q Here (OfActor fits.actor) m
  takes n m among is = elim (search (OfJob cargo.job m) (length fits.frame.regs)) [
    | inl (r, on, has) ↦
        let held : HoldsLive w q (Register r) (OfJob cargo.job m) =
        record { frame = inside; not_closing = not_closing; live = on; holds = has } in
        inr (inr (Register r, held, (fits.alone n m among is q (Register r) refl held).1))
    | inr none ↦ inr (inl (λ p x h. by none p x (secure.coloured.sound.owned.owned h) h))
  ]
    where
      at_top : (none : (r : ℕ) → r < length fits.frame.regs → IsTrue (live r)
          → Contains (w.colours q r) (OfJob cargo.job m) → ⊥) → (x : Element)
          → HoldsLive w q x (OfJob cargo.job m) → ⊥
      at_top none Here h =
          let clash : OfJob cargo.job m ≡ OfActor fits.actor = sym h.holds ∙ holds_here.holds in
          let no : ⊥ = cc in no
      at_top none (Register r) h =
          none r (holds_within r (OfJob cargo.job m) h.holds) h.live h.holds

      by : (none : (r : ℕ) → r < length fits.frame.regs → IsTrue (live r)
          → Contains (w.colours q r) (OfJob cargo.job m) → ⊥) → (p : Spot) (x : Element)
          → cargo.job ≡ p.job → HoldsLive w p x (OfJob cargo.job m) → ⊥
      by none p x own h =
          let alone = fits.alone n m among is p x (sym own) h in
          at_top none x (subst (λ s. HoldsLive w s x (OfJob cargo.job m))
          (same_frame {p = p} {q = q} (sym own)
          (let high = alone.0 in let d : p.depth ≡ q.depth = omega (arith, high) in d)) h)

  sound : IsSound (view_at graph states state (united q.job united_is.numbers united_is.kept
      (hued colors)))
  unfolding IsTaken
  sound = unites_all graph (annotated states state) state q Here united_is.kept united_is.numbers
      (hued colors) (have_heres graph states state (hued colors) secure.heres) height
      (subst (HoldsLive w q Here) (sym kept_is) holds_here)
      (λ m has. subst (λ k. MayUnite w q Here k m) (sym kept_is)
      (elim (taken (OfJob q.job m) (united_is.only m has)) [
        | inl is ↦ absurd (let clash : ⊥ = cc in clash)
        | inr (n, l, among, is, same) ↦
            takes n m among (is ∙ sym same)
      ])) secure.coloured.sound

  -- the state is secure still
  pub delivered_secure : IsSecure graph states state (hued (after_changes (delivery cargo) colors))
  delivered_secure = subst (IsSecure graph states state) (sym united_is.is)
      (secure_united graph states state (hued colors) secure q.job united_is.numbers united_is.kept
      sound)

  -- no other job's colour is touched, and no actor's
  pub delivered_renamed : Renamed cargo.job cargo.job colors.palette
      (after_changes (delivery cargo) colors).palette
  delivered_renamed = merges_renamed cargo.job q numbers colors whole below may
