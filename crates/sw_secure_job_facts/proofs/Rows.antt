-- The colours of frames' `Here`, where a frame is taken off or a job is added.
use Rattle.std.specs.List.{slice_get, slice_index_or}
use Rattle.std.proofs.Common.{◌≡◌, ◌≢◌, ◌⊎◌, ◌-◌, ℕ, suc, Option, Some, None, List, [], ◌∷◌, ◌++◌}
use Rattle.std.proofs.Common.{length, take, get_or, refl, sym, subst, ap, ◌∙◌, arith, inl, inr}
use Rattle.std.proofs.lemmas.Bool.{cases_eq, cases_lt}
use Rattle.std.proofs.lemmas.List.{get_or_past, length-append, length-take}
use Rattle.std.proofs.lemmas.Option.{get_or_from_slice_get, slice_get_past}
use Rattle.sw_list.proofs.ListLemmas.{some_injective, slice_get_first}
use Rattle.sw_graph.specs.declared.graph.Graph.{Graph}
use Rattle.sw_value.specs.declared.job.Job.{Job}
use Rattle.sw_value.specs.declared.state.State.{State}
use Rattle.sw_value.specs.Lists.{changed_at}
use Rattle.sw_value.specs.State.{in_job}
use Rattle.sw_value.proofs.ListLemmas.{changed_at_found, changed_at_none, length-changed_at}
use Rattle.sw_value.proofs.ListLemmas.{take_prefix}
use Rattle.sw_machine_kind_facts.proofs.ItemLemmas.{changed_other, found_within}
use Rattle.sw_owner_facts.specs.Colours.{Colour, OfJob}
use Rattle.sw_owner_facts.specs.View.{Frame as Spot}
use Rattle.sw_view_facts.specs.Views.{Colours, here_at}
use Rattle.sw_view_facts.proofs.TopLemmas.{ends_with}
use Rattle.sw_secure_facts.specs.Memory.{OwnsMemory}
use Rattle.sw_secure_facts.specs.Painting.{without_here}
use Rattle.sw_secure_facts.specs.Secure.{HeresFit}
use Rattle.sw_secure_job_facts.proofs.Changed.{count_same, job_now, job_other}

-- ---- lists with defaults
or_none : {X : Type 0} (xs : List X) (i : ℕ) (d : X) → slice_get xs i ≡ None → get_or xs i d ≡ d
or_none xs i d none = elim (cases_lt i (length xs)) [
  | inl inside ↦
      let found = found_within xs i inside in
      let clash : None ≡ Some found.0 = sym none ∙ found.1 in absurd (let w : ⊥ = cc in w)
  | inr out ↦ get_or_past xs i d out
]

pub or_same : {X : Type 0} (xs ys : List X) (i : ℕ) (d : X) → slice_get xs i ≡ slice_get ys i
    → slice_index_or xs i d ≡ slice_index_or ys i d
or_same {X} xs ys i d same = by (slice_get ys i) refl where
  by : (o : Option X) → slice_get ys i ≡ o → get_or xs i d ≡ get_or ys i d
  by None is = or_none xs i d (same ∙ is) ∙ sym (or_none ys i d is)
  by (Some x) is = get_or_from_slice_get xs i x d (same ∙ is)
      ∙ sym (get_or_from_slice_get ys i x d is)

-- ---- the last of a row is taken off
take_other : {X : Type 0} (xs : List X) (n i : ℕ) → length xs ≡ suc n → i ≢ n
    → slice_get (take (length xs - 1) xs) i ≡ slice_get xs i
take_other {X} xs n i count differ =
    let top = found_within xs n (omega (arith, count)) in
    let split = ends_with xs n top.0 top.1 count in
    let front : take (length xs - 1) xs ≡ split.0 =
    ap (λ k. take k xs)
    (let at : length xs - 1 ≡ length split.0 = (let size = split.2 in omega (arith, count, size)) in
    at)
    ∙ ap (take (length split.0)) split.1 ∙ take_prefix split.0 top.0 in
    ap (λ l. slice_get l i) front ∙ by split.0 top.0 split.2
    ∙ sym (ap (λ l. slice_get l i) split.1)
  where
    by : (front : List X) (x : X) → length front ≡ n
        → slice_get front i ≡ slice_get (front ++ x ∷ []) i
    by front x size = elim (cases_lt i n) [
      | inl low ↦ sym (slice_get_first front (x ∷ []) i (omega (arith, low, size)))
      | inr high ↦
          let more = length-append front (x ∷ []) in
          slice_get_past front i (omega (arith, high, size))
          ∙ sym (slice_get_past (front ++ x ∷ []) i (omega (arith, high, size, differ, more)))
    ]

module _ (job : ℕ) (colours : Colours) where
  -- other jobs' colours stay
  pub here_elsewhere : (p : Spot) → p.job ≢ job
      → here_at (without_here job colours) p ≡ here_at colours p
  here_elsewhere p differ =
      ap (λ (row : List Colour). slice_index_or row p.depth (OfJob p.job 0))
      (or_same (changed_at (λ row. take (length row - 1) row) job colours.heres) colours.heres p.job
      [] (changed_other (λ row. take (length row - 1) row) job p.job colours.heres differ))

  -- and so do those of the frames below
  pub here_below : (row : List Colour) (n : ℕ) → slice_get colours.heres job ≡ Some row
      → length row ≡ suc n → (p : Spot) → p.job ≡ job → p.depth ≢ n
      → here_at (without_here job colours) p ≡ here_at colours p
  here_below row n there count p same differ =
      ap (λ (r : List Colour). slice_index_or r p.depth (OfJob p.job 0))
      (get_or_from_slice_get (changed_at (λ r. take (length r - 1) r) job colours.heres) p.job
      (take (length row - 1) row) []
      (ap (slice_get (changed_at (λ r. take (length r - 1) r) job colours.heres)) same
      ∙ changed_at_found (λ (r : List Colour). take (length r - 1) r) job colours.heres row there))
      ∙ or_same (take (length row - 1) row) row p.depth (OfJob p.job 0)
      (take_other row n p.depth count differ)
      ∙ sym (ap (λ (r : List Colour). slice_index_or r p.depth (OfJob p.job 0))
      (get_or_from_slice_get colours.heres p.job row []
      (ap (slice_get colours.heres) same ∙ there)))

-- a job with a frame less
pub heres_popped : (g : Job → Job) (j : ℕ) (state next : State) → next ≡ in_job g j state
    → (job : Job) → slice_get state.jobs j ≡ Some job → (colours : Colours)
    → length (g job).frames ≡ length job.frames - 1 → HeresFit state colours
    → HeresFit next (without_here j colours)
heres_popped g j state next steps job there colours less fit = record {
  jobs = length-changed_at (λ row. take (length row - 1) row) j colours.heres ∙ fit.jobs
      ∙ sym (count_same g j state next steps job there);
  frames = λ k now row at has. by k now row at has (cases_eq k j);
}
  where
    pop : List Colour → List Colour
    pop row = take (length row - 1) row

    found : (row : List Colour) (o : Option (List Colour)) → slice_get colours.heres j ≡ o
        → slice_get (changed_at pop j colours.heres) j ≡ Some row
        → length row ≡ length job.frames - 1
    found row None none has =
        let clash : None ≡ Some row = sym none
        ∙ sym (ap (λ l. slice_get l j) (changed_at_none pop j colours.heres none)) ∙ has in
        absurd (let w : ⊥ = cc in w)
    found row (Some old) is has =
        let same : pop old ≡ row = some_injective
        (sym (changed_at_found pop j colours.heres old is) ∙ has) in
        let count = fit.frames j job old there is in
        let size = length-take (length old - 1) old in
        ap (λ (l : List Colour). length l) (sym same)
        ∙ (let n : length (pop old) ≡ length job.frames - 1 = omega (arith, count, size) in n)

    by : (k : ℕ) (now : Job) (row : List Colour) → slice_get next.jobs k ≡ Some now
        → slice_get (changed_at pop j colours.heres) k ≡ Some row → (k ≡ j) ⊎ (k ≢ j)
        → length row ≡ length now.frames
    by k now row at has (inl same) =
        let is : g job ≡ now = some_injective
        (sym (job_now g j state next steps job there) ∙ ap (slice_get next.jobs) (sym same) ∙ at) in
        found row (slice_get colours.heres j) refl
        (ap (slice_get (changed_at pop j colours.heres)) (sym same) ∙ has)
        ∙ sym less ∙ ap (λ (x : Job). length x.frames) is
    by k now row at has (inr differ) =
        fit.frames k now row (sym (job_other g j state next steps job there k differ) ∙ at)
        (sym (changed_other pop j k colours.heres differ) ∙ has)

-- memory goes by the colours of cells alone
pub memory_uncoloured : (graph : Graph) (state : State) (colours after : Colours)
    → after.cells ≡ colours.cells → OwnsMemory graph state colours → OwnsMemory graph state after
memory_uncoloured graph state colours after same memory =
    subst (λ (cs : List (Option Colour)). OwnsMemory graph state (record {
      cells = cs;
      heres = after.heres;
    })) (sym same) (record {
      count = memory.count;
      marked = memory.marked;
      inside = memory.inside;
      kept = memory.kept;
      globals = memory.globals;
      global_closures = memory.global_closures;
      own_closures = memory.own_closures;
      earlier = memory.earlier;
    })
