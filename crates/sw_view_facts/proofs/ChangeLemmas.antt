-- A step that changes one top frame, as a change of views.
use Rattle.std.specs.Option.{option_map, option_map_or}
use Rattle.std.specs.List.{slice_get}
use Rattle.std.proofs.Common.{◌≡◌, ◌≢◌, ℕ, zero, suc, ◌<◌, ◌⊎◌, true, Option, Some, None, List, []}
use Rattle.std.proofs.Common.{◌∷◌, Contains, refl, sym, subst, ap, ◌∙◌, arith, inl, inr, cond}
use Rattle.std.proofs.lemmas.Bool.{cases_eq, eq-eqb, ne_eqb}
use Rattle.sw_graph.specs.declared.function.Function.{Function}
use Rattle.sw_graph.specs.declared.graph.Graph.{Graph}
use Rattle.sw_value.specs.declared.frame.Frame.{Frame}
use Rattle.sw_value.specs.declared.state.State.{State}
use Rattle.sw_value.specs.Value.{value_at}
use Rattle.sw_partition.specs.Regions.{Regions}
use Rattle.sw_owner_facts.specs.Colours.{Colour, OfJob}
use Rattle.sw_owner_facts.specs.View.{Element, Here, Register, above, View, IsFrame, HoldsLive}
use Rattle.sw_owner_facts.specs.View.{FrameShape, IsLive, Holds, IsUnheld, Frame as Spot}
use Rattle.sw_owner_facts.specs.Within.{GivenAway, Kept, SameJobs, BeginsClosing, ChangesTop, Comes}
use Rattle.sw_owner_facts.specs.Within.{Weakened, Freshened}
use Rattle.sw_owner_facts.proofs.FrameLemmas.{cases_frame}
use Rattle.sw_region_facts.specs.Moves as moves
use Rattle.sw_region_facts.specs.Moves.{IsSent, Sets}
use Rattle.sw_region_facts.specs.FrameRegions.{TogetherIn, LiveIn, region_in, live_in, IsWeaker}
use Rattle.sw_reach_facts.specs.Reached.{colours_of}
use Rattle.sw_view_facts.specs.Changes.{Changes, KeepsShape, KeepsOthers, HoldsIn}
use Rattle.sw_view_facts.specs.Views.{Colours, frame_at, frame_under, function_of, shape_by}
use Rattle.sw_view_facts.specs.Views.{elements_in, elements_with, region_by, live_by, colours_by}
use Rattle.sw_view_facts.specs.Views.{here_at, awaited_by, view_of}
use Rattle.sw_view_facts.proofs.HeldLemmas.{colours_kept}

-- what an element comes from, where register r gets what some others hold
pub comes_here : (r : ℕ) (sources : List Element) (s : ℕ) → s ≡ r → (y : Element)
    → Contains sources y → Contains (moves.comes r sources (Register s)) y
comes_here r sources s same y has =
    subst (λ b. Contains (cond b sources (Register s ∷ [])) y) (sym (eq-eqb s r same)) has

pub comes_itself : (r : ℕ) (sources : List Element) (x : Element) → x ≢ Register r
    → Contains (moves.comes r sources x) x
comes_itself r sources Here differ = (0, omega arith, refl)
comes_itself r sources (Register s) differ =
    subst (λ b. Contains (cond b sources (Register s ∷ [])) (Register s))
    (sym (ne_eqb s r (λ e. differ (ap Register e)))) (0, omega arith, refl)

module _ (graph : Graph) (regions later : Spot → Option Regions) (state next : State)
    (colours after : Colours) (q : Spot) (f g : Frame)
    (m : Changes graph regions later state next colours after q f g) where
  abbrev old : View
  old = view_of graph regions state colours

  abbrev new : View
  new = view_of graph later next after

  function_same : function_of graph (Some g) ≡ function_of graph (Some f)
  function_same = ap (slice_get graph.functions) m.frames.call.function

  -- the function of a frame, and the register that it asks a result for, stay
  functions_stay : (p : Spot)
      → function_of graph (frame_at next p) ≡ function_of graph (frame_at state p)
  functions_stay p = elim (cases_frame p q) [
    | inl same ↦
        ap (λ s. function_of graph (frame_at next s)) same ∙ ap (function_of graph) m.frames.now
        ∙ function_same ∙ sym (ap (function_of graph) m.frames.was)
        ∙ sym (ap (λ s. function_of graph (frame_at state s)) same)
    | inr differ ↦ ap (function_of graph) (m.frames.others p differ)
  ]

  under_stays : (j d : ℕ) → function_of graph (frame_under next j d)
      ≡ function_of graph (frame_under state j d)
  under_stays j zero = refl
  under_stays j (suc d) = functions_stay (record { job = j; depth = d })

  elements_stay : (p : Spot)
      → elements_in graph (frame_at next p) ≡ elements_in graph (frame_at state p)
  elements_stay p = ap (elements_with graph) (functions_stay p)

  results_stay : (p : Spot) → option_map (λ (h : Frame). h.result) (frame_at next p)
      ≡ option_map (λ (h : Frame). h.result) (frame_at state p)
  results_stay p = elim (cases_frame p q) [
    | inl same ↦
        ap (λ s. option_map (λ (h : Frame). h.result) (frame_at next s)) same
        ∙ ap (option_map (λ (h : Frame). h.result)) m.frames.now ∙ ap Some m.frames.call.result
        ∙ sym (ap (option_map (λ (h : Frame). h.result)) m.frames.was)
        ∙ sym (ap (λ s. option_map (λ (h : Frame). h.result) (frame_at state s)) same)
    | inr differ ↦ ap (option_map (λ (h : Frame). h.result)) (m.frames.others p differ)
  ]

  shape_other : (p : Spot) → p ≢ q → new.shape p ≡ old.shape p
  shape_other p differ =
      ap (λ u. shape_by graph u (frame_at next p)) (under_stays p.job p.depth)
      ∙ ap (shape_by graph (function_of graph (frame_under state p.job p.depth)))
      (m.frames.others p differ)

  live_stays : (p : Spot) (r : ℕ) → p ≢ q → new.live p r ≡ old.live p r
  live_stays p r differ =
      ap (λ e. live_by e (awaited_by next p) (later p) r) (elements_stay p)
      ∙ ap (λ a. live_by (elements_in graph (frame_at state p)) a (later p) r)
      (results_stay (above p))
      ∙ ap (λ s. live_by (elements_in graph (frame_at state p)) (awaited_by state p) s r)
      (m.regions_stay p differ)

  region_stays : (p : Spot) (x : Element) → p ≢ q → new.region p x ≡ old.region p x
  region_stays p x differ =
      ap (λ e. region_by e (later p) x) (elements_stay p)
      ∙ ap (λ s. region_by (elements_in graph (frame_at state p)) s x) (m.regions_stay p differ)

  -- what a register of a frame that was there reaches stays
  reached_stays : (p : Spot) (o : Option Frame) (r : ℕ) → frame_at state p ≡ o
      → colours_by next after o r ≡ colours_by state colours o r
  reached_stays = colours_kept state next colours after m.reached

  colours_stay : (p : Spot) (r : ℕ) → p ≢ q → new.colours p r ≡ old.colours p r
  colours_stay p r differ =
      ap (λ o. colours_by next after o r) (m.frames.others p differ)
      ∙ reached_stays p (frame_at state p) r refl

  held_before : (p : Spot) (x : Element) (c : Colour) → p ≢ q → HoldsLive new p x c
      → HoldsLive old p x c
  held_before p x c differ h = record {
    frame = subst (λ n. p.depth < n) (m.frames.heights p.job) h.frame;
    not_closing = sym (ap (λ (s : FrameShape). s.closing) (shape_other p differ)) ∙ h.not_closing;
    live = lives x h.live;
    holds = holds x h.holds;
  }
    where
      lives : (x : Element) → IsLive new p x → IsLive old p x
      lives Here l = tt
      lives (Register r) l = sym (live_stays p r differ) ∙ l

      holds : (x : Element) → Holds new p x c → Holds old p x c
      holds Here h = sym (m.heres p) ∙ h
      holds (Register r) h = subst (λ l. Contains l c) (colours_stay p r differ) h

  pub same_jobs : SameJobs old new
  same_jobs = record { height = m.frames.heights; running = m.frames.running }

  pub kept_other : (p : Spot) → p ≢ q → Kept old new p
  kept_other p differ = record {
    shape = shape_other p differ;
    here = m.heres p;
    held = λ {x} {c} h. held_before p x c differ h;
    together = λ {x} {y} t. region_stays p x differ ∙ t ∙ sym (region_stays p y differ);
  }

  shape_is : (w : State) (h : Frame) → frame_at w q ≡ Some h
      → function_of graph (frame_under w q.job q.depth)
      ≡ function_of graph (frame_under state q.job q.depth)
      → shape_by graph (function_of graph (frame_under w q.job q.depth)) (frame_at w q)
      ≡ shape_by graph (function_of graph (frame_under state q.job q.depth)) (Some h)
  shape_is w h at under =
      ap (λ u. shape_by graph u (frame_at w q)) under
      ∙ ap (shape_by graph (function_of graph (frame_under state q.job q.depth))) at

  -- the frame has only its return left
  pub closes_now : ((under : Option Function) → shape_by graph under (Some g)
      ≡ record (shape_by graph under (Some f)) { closing = true })
      → BeginsClosing old new q
  closes_now shut = record {
    top = m.frames.top;
    jobs = same_jobs;
    shape = shape_is next g m.frames.now (under_stays q.job q.depth)
        ∙ shut (function_of graph (frame_under state q.job q.depth))
        ∙ ap (λ (s : FrameShape). record s { closing = true })
        (sym (shape_is state f m.frames.was refl));
    here = m.heres q;
    others = λ p is differ. kept_other p differ;
  }

  -- ---- the top frame
  abbrev elements : List (Option ℕ)
  elements = elements_in graph (Some f)

  elements_then : elements_in graph (frame_at state q) ≡ elements
  elements_then = ap (elements_in graph) m.frames.was

  elements_now : elements_in graph (frame_at next q) ≡ elements
  elements_now = elements_stay q ∙ elements_then

  module _ (keeps_shape : KeepsShape graph f g) where
    shape_stays : new.shape q ≡ old.shape q
    shape_stays = shape_is next g m.frames.now (under_stays q.job q.depth)
        ∙ keeps_shape (function_of graph (frame_under state q.job q.depth))
        ∙ sym (shape_is state f m.frames.was refl)

    pub changes_top : ChangesTop old new q
    changes_top = record {
      top = m.frames.top;
      jobs = same_jobs;
      shape = shape_stays;
      here = m.heres q;
      others = λ p is differ. kept_other p differ;
    }

  module _ (keeps_shape : KeepsShape graph f g) (a c : Regions) (before : regions q ≡ Some a)
      (behind : later q ≡ Some c) where
    stays : new.shape q ≡ old.shape q
    stays = shape_stays keeps_shape

    region_then : (x : Element) → old.region q x ≡ region_in elements a x
    region_then x = ap (λ e. region_by e (regions q) x) elements_then
        ∙ ap (λ s. region_by elements s x) before

    region_now : (x : Element) → new.region q x ≡ region_in elements c x
    region_now x = ap (λ e. region_by e (later q) x) elements_now
        ∙ ap (λ s. region_by elements s x) behind

    nothing_awaited : awaited_by state q ≡ None
    nothing_awaited = ap (option_map (λ (h : Frame). h.result)) m.frames.alone

    live_then : (r : ℕ) → old.live q r ≡ live_in elements a r
    live_then r = ap (λ e. live_by e (awaited_by state q) (regions q) r) elements_then
        ∙ ap (λ w. live_by elements w (regions q) r) nothing_awaited
        ∙ ap (λ s. live_by elements None s r) before

    live_now : (r : ℕ) → new.live q r ≡ live_in elements c r
    live_now r = ap (λ e. live_by e (awaited_by next q) (later q) r) elements_now
        ∙ ap (λ w. live_by elements w (later q) r) (results_stay (above q) ∙ nothing_awaited)
        ∙ ap (λ s. live_by elements None s r) behind

    colours_then : (r : ℕ) → old.colours q r ≡ colours_by state colours (Some f) r
    colours_then r = ap (λ o. colours_by state colours o r) m.frames.was

    colours_now : (r : ℕ) → new.colours q r ≡ colours_by next after (Some g) r
    colours_now r = ap (λ o. colours_by next after o r) m.frames.now

    -- The registers keep their values, and the region state unites more and gives more away.
    pub weakens : IsWeaker elements a c → ((s : ℕ) → value_at g.regs s ≡ value_at f.regs s)
        → Weakened old new
    weakens weaker keeps = record {
      jobs = same_jobs;
      frames = λ p is. by p is (cases_frame p q);
    }
      where
        lives : (x : Element) → IsLive new q x → IsLive old q x
        lives Here l = tt
        lives (Register s) l = live_then s ∙ weaker.live (Register s) (sym (live_now s) ∙ l)

        same : (s : ℕ) → new.colours q s ≡ old.colours q s
        same s = colours_now s
            ∙ ap (λ v. option_map_or (colours_of next.cells after.cells) v []) (keeps s)
            ∙ reached_stays q (Some f) s m.frames.was ∙ sym (colours_then s)

        holds : (x : Element) (d : Colour) → Holds new q x d → Holds old q x d
        holds Here d h = sym (m.heres q) ∙ h
        holds (Register s) d h = subst (λ l. Contains l d) (same s) h

        kept : Kept old new q
        kept = record {
          shape = stays;
          here = m.heres q;
          held = λ {x} {c = d} h. record {
            frame = subst (λ n. q.depth < n) (m.frames.heights q.job) h.frame;
            not_closing = sym (ap (λ (s : FrameShape). s.closing) stays) ∙ h.not_closing;
            live = lives x h.live;
            holds = holds x d h.holds;
          };
          together = λ {x} {y} t. region_now x
              ∙ weaker.together x y (sym (region_then x) ∙ t ∙ region_then y)
              ∙ sym (region_now y);
        }

        by : (p : Spot) → IsFrame old p → (p ≡ q) ⊎ (p ≢ q) → Kept old new p
        by p is (inl e) = subst (Kept old new) (sym e) kept
        by p is (inr differ) = kept_other p differ

    -- Element x is sent.
    pub gives_away : (x : Element) → Weakened old new → IsSent elements a c x → GivenAway old new q x
    gives_away x weaker sent = record {
      top = m.frames.top;
      weakened = weaker;
      free = λ here. sent.free (sym (region_then x) ∙ here ∙ region_then Here);
      gone = λ r with_x live. sent.gone r
          (sym (region_then x) ∙ with_x ∙ region_then (Register r)) (sym (live_now r) ∙ live);
    }

    -- Register r gets a colour that nothing live holds, and each other register keeps its value.
    pub freshens : (r number : ℕ)
        → ((x y : Element) → (x ≡ Register r → ⊥) → (y ≡ Register r → ⊥)
        → TogetherIn elements a x y → TogetherIn elements c x y)
        → ((x : Element) → (x ≡ Register r → ⊥) → LiveIn elements c x → LiveIn elements a x)
        → KeepsOthers r f g
        → IsUnheld old (OfJob q.job number)
        → ((colour : Colour) → Contains (colours_by next after (Some g) r) colour
        → colour ≡ OfJob q.job number)
        → Freshened old new q r number
    freshens r number joins lives keeps unheld shows = record {
      change = changes_top keeps_shape;
      fresh = unheld;
      register = λ {c = colour} h. shows colour (subst (λ l. Contains l colour) (colours_now r)
          h.holds);
      held = λ {x} {c = colour} differ h. record {
        frame = subst (λ n. q.depth < n) (m.frames.heights q.job) h.frame;
        not_closing = sym (ap (λ (s : FrameShape). s.closing) stays) ∙ h.not_closing;
        live = live_back x (lives x differ (live_c x h.live));
        holds = holds x differ colour h.holds;
      };
      together = λ {x} {y} one two t. region_now x
          ∙ joins x y one two (sym (region_then x) ∙ t ∙ region_then y) ∙ sym (region_now y);
    }
      where
        live_c : (x : Element) → IsLive new q x → LiveIn elements c x
        live_c Here l = tt
        live_c (Register s) l = sym (live_now s) ∙ l

        live_back : (x : Element) → LiveIn elements a x → IsLive old q x
        live_back Here l = tt
        live_back (Register s) l = live_then s ∙ l

        same : (s : ℕ) → (s ≡ r → ⊥) → new.colours q s ≡ old.colours q s
        same s differ = colours_now s
            ∙ ap (λ v. option_map_or (colours_of next.cells after.cells) v []) (keeps s differ)
            ∙ reached_stays q (Some f) s m.frames.was ∙ sym (colours_then s)

        holds : (x : Element) → (x ≡ Register r → ⊥) → (d : Colour) → Holds new q x d
            → Holds old q x d
        holds Here differ d h = sym (m.heres q) ∙ h
        holds (Register s) differ d h =
            subst (λ l. Contains l d) (same s (λ e. differ (ap Register e))) h

    -- Register r gets colours of its origins alone, and each other register keeps its value.
    pub sets_come : (r : ℕ) (origins : List Element) → Sets elements r origins a c
        → KeepsOthers r f g
        → ((colour : Colour) → Contains (colours_by next after (Some g) r) colour → (y : Element)
        × Contains origins y × HoldsIn state colours f (here_at colours q) y colour)
        → Comes old new q (moves.comes r origins)
    sets_come r origins sets keeps brings = record {
      change = changes_top keeps_shape;
      held = λ {x} {c} h. held_from x c h;
      together = λ {x} {y} {from_x} {from_y} has there t.
          region_now x
          ∙ sets.together x y from_x from_y has there (sym (region_then from_x) ∙ t ∙ region_then from_y)
          ∙ sym (region_now y);
    }
      where
        lives : (y : Element) → LiveIn elements a y → IsLive old q y
        lives Here l = tt
        lives (Register s) l = live_then s ∙ l

        holds : (y : Element) (colour : Colour)
            → HoldsIn state colours f (here_at colours q) y colour → Holds old q y colour
        holds Here colour h = h
        holds (Register s) colour h = subst (λ l. Contains l colour) (sym (colours_then s)) h

        held_old : (x y : Element) (colour : Colour) → HoldsLive new q x colour
            → LiveIn elements a y → HoldsIn state colours f (here_at colours q) y colour
            → HoldsLive old q y colour
        held_old x y colour h live is = record {
          frame = subst (λ n. q.depth < n) (m.frames.heights q.job) h.frame;
          not_closing = sym (ap (λ (s : FrameShape). s.closing) stays) ∙ h.not_closing;
          live = lives y live;
          holds = holds y colour is;
        }

        live_c : (x : Element) → IsLive new q x → LiveIn elements c x
        live_c Here l = tt
        live_c (Register s) l = sym (live_now s) ∙ l

        stays : (s : ℕ) (colour : Colour) → (s ≡ r → ⊥) → Contains (new.colours q s) colour
            → Contains (colours_by state colours (Some f) s) colour
        stays s colour differ has =
            subst (λ l. Contains l colour)
            (colours_now s
            ∙ ap (λ v. option_map_or (colours_of next.cells after.cells) v []) (keeps s differ)
            ∙ reached_stays q (Some f) s m.frames.was) has

        held_from : (x : Element) (colour : Colour) → HoldsLive new q x colour
            → (y : Element) × Contains (moves.comes r origins x) y × HoldsLive old q y colour
        held_from Here colour h = (
          Here,
          (0, omega arith, refl),
          held_old Here Here colour h tt (sym (m.heres q) ∙ h.holds),
        )
        held_from (Register s) colour h = elim (cases_eq s r) [
          | inl same ↦
              let source = brings colour (subst (λ l. Contains l colour)
              (ap (λ i. new.colours q i) same ∙ colours_now r) h.holds) in (
                source.0,
                comes_here r origins s same source.0 source.1,
                held_old (Register s) source.0 colour h (sets.used source.0 source.1) source.2,
              )
          | inr differ ↦ (
            Register s,
            comes_itself r origins (Register s) (λ e. differ (let c : s ≡ r = cc in c)),
            held_old (Register s) (Register s) colour h
                (sets.live (Register s) (λ e. differ (let c : s ≡ r = cc in c))
                (live_c (Register s) h.live))
                (stays s colour differ h.holds),
          )
        ]
