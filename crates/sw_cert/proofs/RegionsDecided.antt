-- Whether a region state is included in another, and in what stands at a block, can be decided.
use Rattle.std.proofs.Common.{◌≡◌, ℕ, ◌<◌, inl, inr, Option, Some, None, length, refl, subst}
use Rattle.std.specs.Prelude.{slice_index}
use Rattle.sw_partition.specs.Regions.{Regions, mark_of, Together, HasPair, IsWithin}
use Rattle.sw_region_flow.proofs.Deciding.{Decided, same_decided}
use Rattle.sw_region_flow.proofs.Doing.{tell_together, tell_pair}
use Rattle.sw_solve.specs.Annotation.{IsBelow}
use Rattle.sw_cert.proofs.Decisions.{each_below, from_decided}

module _ (a b : Regions) where
  tell_classes : Decided ((x : ℕ) → x < length a.labels → (y : ℕ) → y < length a.labels
      → Together a x y → Together b x y)
  tell_classes = each_below (length a.labels)
      (λ x. (y : ℕ) → y < length a.labels → Together a x y → Together b x y)
      (λ x. each_below (length a.labels) (λ y. Together a x y → Together b x y)
      (λ y. from_decided (tell_together a x y) (tell_together b x y)))

  tell_pairs : Decided ((x : ℕ) → x < length a.labels → (k : ℕ) → k < length a.sites
      → mark_of a x k ≡ 1 → HasPair b x (slice_index a.sites k))
  tell_pairs = each_below (length a.labels)
      (λ x. (k : ℕ) → k < length a.sites → mark_of a x k ≡ 1
      → HasPair b x (slice_index a.sites k))
      (λ x. each_below (length a.sites)
      (λ k. mark_of a x k ≡ 1 → HasPair b x (slice_index a.sites k))
      (λ k. from_decided (same_decided (mark_of a x k) 1)
      (tell_pair b x (slice_index a.sites k))))

  pub tell_within : Decided (IsWithin a b)
  tell_within = by tell_classes tell_pairs
    where
      by : Decided ((x : ℕ) → x < length a.labels → (y : ℕ) → y < length a.labels
          → Together a x y → Together b x y)
          → Decided ((x : ℕ) → x < length a.labels → (k : ℕ) → k < length a.sites
          → mark_of a x k ≡ 1 → HasPair b x (slice_index a.sites k)) → Decided (IsWithin a b)
      by (inr apart) pairs = inr (λ within. apart (λ x x_lt y y_lt t. within.together x y t))
      by (inl classes) (inr missing) = inr (λ within. missing (λ x lt k k_lt marked.
          within.pairs x (slice_index a.sites k) (record {
            element = lt;
            column = k;
            in_range = k_lt;
            is_site = refl;
            marked = marked;
          })))
      by (inl classes) (inl pairs) = inl (record {
        together = λ x y t. classes x t.left y t.right t;
        pairs = λ x site has. subst (HasPair b x) has.is_site
            (pairs x has.element has.column has.in_range has.marked);
      })

pub tell_below : (a : Regions) (o : Option Regions) → Decided (IsBelow IsWithin a o)
tell_below a None = inr (λ below. below)
tell_below a (Some b) = tell_within a b
