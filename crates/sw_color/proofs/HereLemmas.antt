-- What is put on top of a job's and taken off again.
use Rattle.std.proofs.Common.{◌≡◌, ℕ, ◌-◌, List, [], ◌∷◌, ◌++◌, length, take, refl, ap, ◌∙◌, arith}
use Rattle.std.proofs.Common.{Option, Some, None, slice_get, slice_set, length-append}
use Rattle.std.proofs.lemmas.List.{set-set}
use Rattle.sw_value.specs.Lists.{changed_at}
use Rattle.sw_value.proofs.ListLemmas.{changed_at_there, changed_at_none, changed_at_found}
use Rattle.sw_value.proofs.ListLemmas.{take_prefix, set_back}
use Rattle.sw_color_rules.specs.declared.colors.Colors.{Colors}
use Rattle.sw_color_rules.specs.Changes.{with_last, without_last, push_here, pop_here}

without_put : (n : ℕ) (ns : List ℕ) → without_last (with_last n ns) ≡ ns
unfolding without_last with_last
without_put n ns =
    let count : length (ns ++ n ∷ []) - 1 ≡ length ns = omega (arith, length-append ns (n ∷ [])) in
    ap (λ k. take k (ns ++ n ∷ [])) count ∙ take_prefix ns n

back : (hs : List (List ℕ)) (job n : ℕ)
    → changed_at without_last job (changed_at (with_last n) job hs) ≡ hs
back hs job n = by (slice_get hs job) refl where
  by : (o : Option (List ℕ)) → slice_get hs job ≡ o
      → changed_at without_last job (changed_at (with_last n) job hs) ≡ hs
  by None e =
      ap (changed_at without_last job) (changed_at_none (with_last n) job hs e)
      ∙ changed_at_none without_last job hs e
  by (Some ns) e =
      let put = changed_at_there (with_last n) job hs ns e in
      changed_at_there without_last job (changed_at (with_last n) job hs) (with_last n ns)
      (changed_at_found (with_last n) job hs ns e)
      ∙ ap (λ l. slice_set l job (without_last (with_last n ns))) put
      ∙ set-set hs job (with_last n ns) (without_last (with_last n ns))
      ∙ set_back hs job ns (without_last (with_last n ns)) e (without_put n ns)

pub unpushes : (job n : ℕ) (old new colors : Colors) → new ≡ pop_here job old
    → old ≡ push_here job n colors → new ≡ colors
unfolding pop_here push_here
unpushes job n old new colors popped pushed =
    popped ∙ ap (pop_here job) pushed
    ∙ ap (λ hs. record colors { heres = hs }) (back colors.heres job n)
