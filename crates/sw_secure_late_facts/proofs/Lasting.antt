-- What a job takes along stays as it is while other jobs act.
use Rattle.std.proofs.Common.{◌≡◌, ◌<◌, ℕ, zero, suc, Option, Some, None, List, [], ◌++◌}
use Rattle.std.proofs.Common.{length, map, Contains, IsTrue, refl, sym, subst, ap, ◌∙◌, arith}
use Rattle.std.specs.Prelude.{slice_index_or}
use Rattle.std.specs.List.{slice_get}
use Rattle.std.specs.Option.{option_and_then, option_map, option_map_or}
use Rattle.std.proofs.lemmas.List.{length-map}
use Rattle.std.proofs.lemmas.Option.{get_or_from_slice_get, slice_get-map, slice_get_within}
use Rattle.sw_list.proofs.Members.{flat_map_same, none_in}
use Rattle.sw_list.proofs.ListLemmas.{slice_get_first}
use Rattle.sw_graph.specs.declared.graph.Graph.{Graph}
use Rattle.sw_value.specs.declared.frame.Frame.{Frame}
use Rattle.sw_value.specs.declared.job.Job.{Job}
use Rattle.sw_value.specs.declared.state.State.{State}
use Rattle.sw_value.specs.declared.value.Value.{Value}
use Rattle.sw_value.specs.Value.{value_at}
use Rattle.sw_machine_kind_facts.proofs.ItemLemmas.{found_within}
use Rattle.sw_color_rules.specs.declared.colors.Colors.{Colors}
use Rattle.sw_color_rules.specs.declared.colors.Tint.{Tint}
use Rattle.sw_color_rules.specs.Plans.{next_color}
use Rattle.sw_color_rules.specs.Ranges.{AreBelow, AreMade}
use Rattle.sw_color_rules.specs.Tints.{colors_in, held, held_by, references_in}
use Rattle.sw_color_rules.proofs.NumberLemmas.{all_there, value_below}
use Rattle.sw_partition.specs.Regions.{Regions}
use Rattle.sw_owner_facts.specs.Colours.{Actor, OfActor, OfJob}
use Rattle.sw_owner_facts.specs.View.{Element, FrameShape, Here, HoldsLive, IsFrame, Register, View}
use Rattle.sw_owner_facts.specs.View.{Frame as Spot}
use Rattle.sw_owner_facts.proofs.FrameLemmas.{same_frame}
use Rattle.sw_reach_facts.specs.Reached.{colours_of}
use Rattle.sw_view_facts.specs.Views.{awaited_by, colours_by, elements_in, frame_at, frame_under}
use Rattle.sw_view_facts.specs.Views.{function_of, here_at, live_by, region_by, shape_by}
use Rattle.sw_view_facts.specs.Views.{state_with}
use Rattle.sw_view_facts.specs.Views.{view_at}
use Rattle.sw_view_facts.proofs.NewLemmas.{registers_name}
use Rattle.sw_view_facts.proofs.RenameLemmas.{of_map}
use Rattle.sw_late_facts.specs.Hues.{hue}
use Rattle.sw_late_facts.specs.Late.{Cargo}
use Rattle.sw_secure_facts.specs.Secure.{IsSecure}
use Rattle.sw_hue_facts.specs.Hued.{hued, hues_of}
use Rattle.sw_hue_facts.specs.Tinted.{TintsFit}
use Rattle.sw_hue_facts.proofs.Tinted.{references_same}
use Rattle.sw_secure_late_facts.specs.LateSecure.{CargoFits}
use Rattle.sw_secure_late_facts.proofs.Numbers.{all_in}
use Rattle.sw_secure_late_facts.proofs.Reading.{value_reads}
use Rattle.sw_secure_late_facts.proofs.Same.{in_hues}

-- What colours become where job k has nothing to do with it: actors' stay, and so do this job's,
-- of the cells that there were and of its frames.
pub record Lasts (k : ℕ) (colors after : Colors) : Type 0 where
  pub actors : (n : ℕ) (a : Actor) → n < next_color colors → hue colors.palette n ≡ OfActor a
      → hue after.palette n ≡ OfActor a
  pub fixed : (n m : ℕ) → n < next_color colors → hue colors.palette n ≡ OfJob k m
      → hue after.palette n ≡ OfJob k m
  pub back : (n m : ℕ) → n < next_color colors → hue after.palette n ≡ OfJob k m
      → hue colors.palette n ≡ OfJob k m
  pub more : List Tint
  pub cells : after.cells ≡ colors.cells ++ more
  pub heres : slice_get after.heres k ≡ slice_get colors.heres k

-- the numbers of a value whose cells were there
numbers_were : (tints more : List Tint) (v : Value)
    → ((c : ℕ) → Contains (references_in v) c → c < length tints)
    → colors_in (tints ++ more) v ≡ colors_in tints v
unfolding colors_in held
numbers_were tints more v names = flat_map_same (held (tints ++ more)) (held tints)
    (references_in v)
    (λ c has. ap (λ o. option_map_or held_by o []) (slice_get_first tints more c (names c has)))

module _ (graph : Graph) (states : ℕ → List (Option Regions)) (old next : State)
    (colors after : Colors) (made : AreMade colors)
    (secure : IsSecure graph states old (hued colors))
    (later : IsSecure graph states next (hued after)) (tints : TintsFit graph old.cells colors)
    (tints_later : TintsFit graph next.cells after) (k : ℕ) (job : Job)
    (was : slice_get old.jobs k ≡ Some job) (there : slice_get next.jobs k ≡ Some job)
    (lasts : Lasts k colors after) where
  abbrev s : ℕ → Spot
  s d = record { job = k; depth = d }

  abbrev w : View
  w = view_at graph states old (hued colors)

  abbrev v : View
  v = view_at graph states next (hued after)

  -- ---- the job's frames
  jobs_same : slice_get next.jobs k ≡ slice_get old.jobs k
  jobs_same = there ∙ sym was

  frame_same : (d : ℕ) → frame_at next (s d) ≡ frame_at old (s d)
  frame_same d = ap (option_and_then (λ (j : Job). slice_get j.frames d)) jobs_same

  under_same : (d : ℕ) → frame_under next k d ≡ frame_under old k d
  under_same zero = refl
  under_same (suc d) = frame_same d

  shape_same : (d : ℕ) → v.shape (s d) ≡ w.shape (s d)
  shape_same d = ap (λ u. shape_by graph (function_of graph u) (frame_at next (s d))) (under_same d)
      ∙ ap (shape_by graph (function_of graph (frame_under old k d))) (frame_same d)

  live_same : (d r : ℕ) → v.live (s d) r ≡ w.live (s d) r
  live_same d r =
      ap (λ o. live_by (elements_in graph o) (awaited_by next (s d)) (state_with states o) r)
      (frame_same d)
      ∙ ap (λ o. live_by (elements_in graph (frame_at old (s d)))
      (option_map (λ (f : Frame). f.result) o)
      (state_with states (frame_at old (s d))) r) (frame_same (suc d))

  region_same : (d : ℕ) (x : Element) → v.region (s d) x ≡ w.region (s d) x
  region_same d x =
      ap (λ o. region_by (elements_in graph o) (state_with states o) x) (frame_same d)

  height_same : v.height k ≡ w.height k
  height_same = ap (λ o. option_map_or (λ (j : Job). length j.frames) o 0) jobs_same

  -- ---- the colours of its `Here`
  here_of : (c : Colors) (ns : List ℕ) (d n : ℕ) → slice_get c.heres k ≡ Some ns
      → slice_get ns d ≡ Some n → here_at (hued c) (s d) ≡ hue c.palette n
  here_of c ns d n rows at =
      ap (λ r. slice_index_or r d (OfJob k 0))
      (get_or_from_slice_get (map (map (hue c.palette)) c.heres) k (map (hue c.palette) ns) []
      (slice_get-map (map (hue c.palette)) c.heres k ∙ ap (option_map (map (hue c.palette))) rows))
      ∙ get_or_from_slice_get (map (hue c.palette) ns) d (hue c.palette n) (OfJob k 0)
      (slice_get-map (hue c.palette) ns d ∙ ap (option_map (hue c.palette)) at)

  here_back : (d m : ℕ) → IsFrame w (s d) → here_at (hued after) (s d) ≡ OfJob k m
      → here_at (hued colors) (s d) ≡ OfJob k m
  here_back d m inside is =
      here_of colors row.0 d at.0 row.1 at.1
      ∙ lasts.back at.0 m below (sym (here_of after row.0 d at.0 (lasts.heres ∙ row.1) at.1) ∙ is)
    where
      few : k < length colors.heres
      few =
          let low = slice_get_within old.jobs k job was in
          let count = secure.heres.jobs in
          omega (arith, low, count, length-map colors.heres (map (hue colors.palette)))

      row : (ns : List ℕ) × (slice_get colors.heres k ≡ Some ns)
      row = found_within colors.heres k few

      size : length row.0 ≡ length job.frames
      size = sym (length-map row.0 (hue colors.palette))
          ∙ secure.heres.frames k job (map (hue colors.palette) row.0) was
          (slice_get-map (map (hue colors.palette)) colors.heres k
          ∙ ap (option_map (map (hue colors.palette))) row.1)

      high : d < length job.frames
      high = subst (λ o. d < option_map_or (λ (j : Job). length j.frames) o 0) was inside

      at : (n : ℕ) × (slice_get row.0 d ≡ Some n)
      at = found_within row.0 d (omega (arith, size, high))

      below : at.0 < next_color colors
      below = all_there (λ n. n < next_color colors) row.0 d at.0 at.1
          (all_there (AreBelow (next_color colors)) colors.heres k row.0 row.1 made.heres)

  -- ---- the colours of its registers
  value_back : (h : Frame) (d r m : ℕ) (u : Value) → frame_at old (s d) ≡ Some h
      → value_at h.regs r ≡ Some u
      → Contains (colours_of next.cells (hued after).cells u) (OfJob k m)
      → Contains (colours_of old.cells (hued colors).cells u) (OfJob k m)
  value_back h d r m u at is has =
      (value_reads graph old.cells colors tints secure.memory.earlier u).to (OfJob k m)
      (subst (Contains (hues_of colors.palette (colors_in colors.cells u)))
      (lasts.back number.0 m below number.2)
      (in_hues colors.palette (colors_in colors.cells u) number.0 among))
    where
      number : (n : ℕ) × Contains (colors_in after.cells u) n × (hue after.palette n ≡ OfJob k m)
      number = of_map (hue after.palette) (colors_in after.cells u) (OfJob k m)
          ((value_reads graph next.cells after tints_later later.memory.earlier u).from (OfJob k m)
          has)

      names : (c : ℕ) → Contains (references_in u) c → c < length colors.cells
      names c refers =
          let low = registers_name graph old secure.coloured.kinded (s d) h r u at is c
          (subst (λ l. Contains l c) (references_same u) refers) in
          let count = tints.count in omega (arith, low, count)

      among : Contains (colors_in colors.cells u) number.0
      among = subst (λ l. Contains l number.0) (numbers_were colors.cells lasts.more u names)
          (subst (λ l. Contains (colors_in l u) number.0) lasts.cells number.1)

      below : number.0 < next_color colors
      below = all_in (λ n. n < next_color colors) (colors_in colors.cells u) number.0
          (value_below (next_color colors) colors.cells made.cells u) among

  register_back : (d r m : ℕ) → Contains (v.colours (s d) r) (OfJob k m)
      → Contains (w.colours (s d) r) (OfJob k m)
  register_back d r m has = by (frame_at old (s d)) refl
      (subst (λ o. Contains (colours_by next (hued after) o r) (OfJob k m)) (frame_same d) has)
    where
      values : (h : Frame) → frame_at old (s d) ≡ Some h → (o : Option Value) → value_at h.regs r
          ≡ o
          → Contains (option_map_or (colours_of next.cells (hued after).cells) o []) (OfJob k m)
          → Contains (option_map_or (colours_of old.cells (hued colors).cells) o []) (OfJob k m)
      values h at None is has = has
      values h at (Some u) is has = value_back h d r m u at is has

      by : (o : Option Frame) → frame_at old (s d) ≡ o
          → Contains (colours_by next (hued after) o r) (OfJob k m)
          → Contains (colours_by old (hued colors) o r) (OfJob k m)
      by None at has = absurd (none_in (OfJob k m) has)
      by (Some h) at has = values h at (value_at h.regs r) refl has

  -- ---- what it holds of its own it held
  held_at : (d : ℕ) (x : Element) (m : ℕ) → HoldsLive v (s d) x (OfJob k m)
      → HoldsLive w (s d) x (OfJob k m)
  held_at d Here m h =
      let inside : IsFrame w (s d) = subst (λ n. d < n) height_same h.frame in
      record {
        frame = inside;
        not_closing = ap (λ (f : FrameShape). f.closing) (sym (shape_same d)) ∙ h.not_closing;
        live = tt;
        holds = here_back d m inside h.holds;
      }
  held_at d (Register r) m h = record {
    frame = subst (λ n. d < n) height_same h.frame;
    not_closing = ap (λ (f : FrameShape). f.closing) (sym (shape_same d)) ∙ h.not_closing;
    live = subst IsTrue (live_same d r) h.live;
    holds = register_back d r m h.holds;
  }

  held_was : (p : Spot) (x : Element) (m : ℕ) → p.job ≡ k → HoldsLive v p x (OfJob k m)
      → HoldsLive w p x (OfJob k m)
  held_was p x m own h =
      let same : p ≡ s p.depth = same_frame {p = p} {q = s p.depth} own refl in
      subst (λ q. HoldsLive w q x (OfJob k m)) (sym same)
      (held_at p.depth x m (subst (λ q. HoldsLive v q x (OfJob k m)) same h))

  region_was : (p : Spot) (x : Element) → p.job ≡ k → v.region p x ≡ w.region p x
  region_was p x own =
      let same : p ≡ s p.depth = same_frame {p = p} {q = s p.depth} own refl in
      ap (λ q. v.region q x) same ∙ region_same p.depth x ∙ sym (ap (λ q. w.region q x) same)

module _ (graph : Graph) (states : ℕ → List (Option Regions)) (old next : State)
    (colors after : Colors) (made : AreMade colors)
    (secure : IsSecure graph states old (hued colors))
    (later : IsSecure graph states next (hued after)) (tints : TintsFit graph old.cells colors)
    (tints_later : TintsFit graph next.cells after) (cargo : Cargo)
    (fits : CargoFits graph states old colors cargo)
    (there : slice_get next.jobs cargo.job ≡ Some fits.job)
    (lasts : Lasts cargo.job colors after) (actor_made : cargo.actor < next_color colors)
    (colors_made : AreBelow (next_color colors) cargo.colors) where
  below : (n : ℕ) → Contains cargo.colors n → n < next_color colors
  below n has = all_in (λ m. m < next_color colors) cargo.colors n colors_made has

  pub cargo_lasts : CargoFits graph states next after cargo
  cargo_lasts = record {
    job = fits.job;
    there = there;
    frame = fits.frame;
    top = fits.top;
    entry = fits.entry;
    entered = fits.entered;
    actor = fits.actor;
    on = fits.on;
    is = lasts.actors cargo.actor fits.actor actor_made fits.is;
    owned = λ n has. let own = fits.owned n has in (own.0, lasts.fixed n own.0 (below n has) own.1);
    alone = λ n m has is p x own h.
        let alone = fits.alone n m has (lasts.back n m (below n has) is) p x own
        (held_was graph states old next colors after made secure later tints tints_later cargo.job
        fits.job fits.there there lasts p x m own h) in
        let same = region_was graph states old next colors after made secure later tints tints_later
        cargo.job fits.job fits.there there lasts p in (
          alone.0,
          same x own ∙ alone.1 ∙ sym (same Here own),
        );
  }
