-- Elements that are joined: what comes together, and what stays apart.
use Rattle.std.proofs.Common.{◌≡◌, ℕ, ◌<◌, List, [], ◌∷◌, map, length, Contains, refl, sym, subst}
use Rattle.std.proofs.Common.{◌∙◌, inl, inr}
use Rattle.sw_list.proofs.Members.{none_in, one_in, first_in, later_in, without_second, second_or_other}
use Rattle.sw_partition.specs.Effects.{IsJoined}
use Rattle.sw_partition.specs.Laws.{within_refl, within_trans}
use Rattle.sw_partition.specs.Regions.{Regions, Together, HasPair, IsWithin}
use Rattle.sw_region_ops.specs.Groups.{join_with, join_here, join_all}
use Rattle.sw_region_ops.specs.Runs.{Applies}
use Rattle.sw_region_ops.specs.declared.marks.Mark.{Mark}
use Rattle.sw_region_ops.specs.declared.op.Op.{Op}
use Rattle.sw_region_ops.specs.declared.op.Op.TheVariants.{Join}
use Rattle.sw_region_facts.proofs.Doing.{Done, done_rest}

-- a state of the same size that unites more and gives more away
pub record Grown (a b : Regions) : Type 0 where
  pub within : IsWithin a b
  pub sized : length b.labels ≡ length a.labels

pub grown_itself : (a : Regions) → Grown a a
grown_itself a = record { within = within_refl a; sized = refl }

pub grown_on : (a b c : Regions) → Grown a b → Grown b c → Grown a c
grown_on a b c first second = record {
  within = within_trans a b c first.within second.within;
  sized = second.sized ∙ first.sized;
}

pub together_trans : (a : Regions) (x y z : ℕ) → Together a x y → Together a y z → Together a x z
together_trans a x y z first second =
    record { left = first.left; right = second.right; same = first.same ∙ second.same }

pub together_sym : (a : Regions) (x y : ℕ) → Together a x y → Together a y x
together_sym a x y t = record { left = t.right; right = t.left; same = sym t.same }

joined_grows : (x y : ℕ) (a b : Regions) → IsJoined x y a b → Grown a b
joined_grows x y a b joined = record {
  within = record {
    together = λ p q t. (joined.together p q).1 (inl t);
    pairs = λ p site has. (joined.pairs p site).1 has;
  };
  sized = joined.elements_same;
}

joined_swapped : (x y : ℕ) (a b : Regions) → IsJoined x y a b → IsJoined y x a b
joined_swapped x y a b joined = record {
  elements_same = joined.elements_same;
  sites_same = joined.sites_same;
  together = λ p q. (
    λ t. elim ((joined.together p q).0 t) [
      | inl old ↦ inl old
      | inr (inl new) ↦ inr (inr new)
      | inr (inr new) ↦ inr (inl new)
    ],
    λ t. (joined.together p q).1 (elim t [
      | inl old ↦ inl old
      | inr (inl new) ↦ inr (inr new)
      | inr (inr new) ↦ inr (inl new)
    ]),
  );
  pairs = joined.pairs;
}

-- The marks are together. No pair is new, and what none of them was with is apart from what it was
-- apart from.
pub record Joined (marks : List Mark) (a b : Regions) : Type 0 where
  pub grown : Grown a b
  pub pairs : (p site : ℕ) → HasPair b p site → HasPair a p site
  pub together : (one other : Mark) → Contains marks one → Contains marks other
      → Together b one.x other.x
  pub apart : (z : ℕ) → ((mark : Mark) → Contains marks mark → Together a mark.x z → ⊥) → (p : ℕ)
      → (Together a p z → ⊥) → Together b p z → ⊥

joined_alone : (first : Mark) (a : Regions) → first.x < length a.labels → Joined (first ∷ []) a a
joined_alone first a inside = record {
  grown = grown_itself a;
  pairs = λ p site has. has;
  together = λ one other has there.
      subst (λ n. Together a n.x other.x) (one_in first one has)
      (subst (λ n. Together a first.x n.x) (one_in first other there)
      (record { left = inside; right = inside; same = refl }));
  apart = λ z none p differ t. differ t;
}

-- what is apart from an element stays so, if what is joined is apart from it
apart_stays : (x y : ℕ) (a b : Regions) → IsJoined x y a b → (z : ℕ) → (Together a x z → ⊥)
    → (Together a y z → ⊥) → (p : ℕ) → (Together a p z → ⊥) → Together b p z → ⊥
apart_stays x y a b joined z no_x no_y p differ t = elim ((joined.together p z).0 t) [
  | inl old ↦ differ old
  | inr (inl new) ↦ no_y new.1
  | inr (inr new) ↦ no_x new.1
]

-- one more that joins the first
module _ (first next : Mark) (others : List Mark) (b : Regions) where
  united_more : ((one other : Mark) → Contains (first ∷ others) one
      → Contains (first ∷ others) other → Together b one.x other.x)
      → Together b first.x next.x → (one other : Mark)
      → Contains (first ∷ next ∷ others) one → Contains (first ∷ next ∷ others) other
      → Together b one.x other.x
  united_more all joined one other has there =
      together_trans b one.x first.x other.x (together_sym b first.x one.x (with_first one has))
      (with_first other there)
    where
      with_first : (mark : Mark) → Contains (first ∷ next ∷ others) mark
          → Together b first.x mark.x
      with_first mark has = elim (second_or_other first next others mark has) [
        | inl is ↦ subst (λ n. Together b first.x n.x) is joined
        | inr among ↦ all first mark (first_in first others) among
      ]

  joined_more : (a m : Regions) → first.x < length a.labels → next.x < length a.labels
      → IsJoined first.x next.x a m → Joined (first ∷ others) m b
      → Joined (first ∷ next ∷ others) a b
  joined_more a m one two step rest = record {
    grown = grown_on a m b (joined_grows first.x next.x a m step) rest.grown;
    pairs = λ p site has. (step.pairs p site).0 (rest.pairs p site has);
    together = united_more rest.together (rest.grown.within.together first.x next.x
        ((step.together first.x next.x).1 (inr (inl (
          record { left = one; right = one; same = refl },
          record { left = two; right = two; same = refl },
        )))));
    apart = λ z none p differ. rest.apart z (λ mark has. stays z none mark.x
        (none mark (without_second first next others mark has))) p (stays z none p differ);
  }
    where
      stays : (z : ℕ)
          → ((mark : Mark) → Contains (first ∷ next ∷ others) mark → Together a mark.x z → ⊥)
          → (p : ℕ) → (Together a p z → ⊥) → Together m p z → ⊥
      stays z none = apart_stays first.x next.x a m step z
          (none first (first_in first (next ∷ others)))
          (none next (later_in first (next ∷ others) next (first_in next others)))

-- each of the others joins the first
joined_each : (first : Mark) (join : Mark → Op)
    → ((mark : Mark) (a b : Regions) → Applies (join mark) a b → IsJoined first.x mark.x a b)
    → (others : List Mark) (a b : Regions) → Done (map join others) a b
    → ((mark : Mark) → Contains (first ∷ others) mark → mark.x < length a.labels)
    → Joined (first ∷ others) a b
joined_each first join joins [] a b done inside =
    subst (Joined (first ∷ []) a) (sym done.runs)
    (joined_alone first a (inside first (first_in first [])))
joined_each first join joins (next ∷ others) a b done inside =
    let step = joins next a done.runs.0 done.runs.1 in
    joined_more first next others b a done.runs.0 (inside first (first_in first (next ∷ others)))
    (inside next (later_in first (next ∷ others) next (first_in next others))) step
    (joined_each first join joins others done.runs.0 b
    (done_rest (join next) (map join others) a b done)
    (λ mark has. subst (λ n. mark.x < n) (sym step.elements_same)
    (inside mark (without_second first next others mark has))))

-- a mark of `Here`
abbrev pub here_mark : Mark
here_mark = record { x = 0; at = 0 }

module _ (marks : List Mark) (a b : Regions) where
  pub joined_with : (first : Mark) → Done (join_with first.x marks) a b
      → ((mark : Mark) → Contains (first ∷ marks) mark → mark.x < length a.labels)
      → Joined (first ∷ marks) a b
  joined_with first = joined_each first (λ mark. Join first.x mark.x) (λ mark m n joins. joins) marks a b

  pub joined_here : Done (join_here marks) a b
      → ((mark : Mark) → Contains (here_mark ∷ marks) mark → mark.x < length a.labels)
      → Joined (here_mark ∷ marks) a b
  joined_here = joined_each here_mark (λ mark. Join mark.x 0)
      (λ mark m n joins. joined_swapped mark.x 0 m n joins) marks a b

pub joined_all : (marks : List Mark) (a b : Regions) → Done (join_all marks) a b
    → ((mark : Mark) → Contains marks mark → mark.x < length a.labels) → Joined marks a b
joined_all [] a b done inside = subst (Joined [] a) (sym done.runs) (record {
  grown = grown_itself a;
  pairs = λ p site has. has;
  together = λ one other has. absurd (none_in one has);
  apart = λ z none p differ t. differ t;
})
joined_all (first ∷ marks) a b done inside = joined_with marks a b first done inside
