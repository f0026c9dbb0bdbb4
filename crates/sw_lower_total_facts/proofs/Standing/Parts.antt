-- What is part of a tree: of its keys the same is noted of the whole, and it has its scopes from the
-- whole. So it stands where the whole stands.
use Rattle.std.proofs.Common.{◌≡◌, ℕ, ◌<◌, ◌≤◌, List, ◌∷◌, ◌++◌, nat_eq, Contains}
use Rattle.std.proofs.Common.{sym, subst, ◌∙◌, arith}
use Rattle.std.specs.List.{IsDistinct}
use Rattle.std.specs.Prelude.{All}
use Rattle.std.proofs.lemmas.List.Elements.{All-contains}
use Rattle.sw_tree.specs.Keys.{Keys}
use Rattle.sw_tree.proofs.Counting.{IsDistinct-count, count, hits, in_all-append, in_all-cons}
use Rattle.sw_typing_rules.proofs.OneWorld.{distinct_once}
use Rattle.sw_isolation_rules.specs.declared.note.BodyIso.{BodyIso}
use Rattle.sw_isolation_rules.specs.declared.note.Note.{Note}
use Rattle.sw_isolation_rules.specs.declared.note.Note.TheVariants.{Body}
use Rattle.sw_lower_total_facts.specs.Noted.{IsAll, Sight, StandsInText}
use Rattle.sw_tree.specs.Scopes.{Scoped, both}
use Rattle.sw_lower_total_facts.proofs.Standing.Covering.{Covers}
use Rattle.sw_tree.proofs.KeyMembers.{contained, counted}
use Rattle.sw_lower_total_facts.proofs.Standing.Noting.{AreBare, IsAlike, alike_body, alike_left}
use Rattle.sw_lower_total_facts.proofs.Standing.Noting.{alike_right, alike_same, alike_then, bare_lacks}
use Rattle.sw_lower_total_facts.proofs.Standing.Scopes.{IsWithin, all_among, all_of_each, within_left}
use Rattle.sw_lower_total_facts.proofs.Standing.Scopes.{within_part, within_right, within_same}

-- Notes of some of these keys: they have all that is noted of them.
pub record IsShare (notes : List Note) (keys : Keys) (part : List Note) (part_keys : Keys)
    : Type 0 where
  pub alike : (key : ℕ) → 1 ≤ count part_keys key → count keys key ≤ 1 → IsAlike key notes part
  pub fewer : (key : ℕ) → count part_keys key ≤ count keys key

pub share_same : (notes : List Note) (keys : Keys) → IsShare notes keys notes keys
share_same notes keys = record {
  alike = λ key some once. alike_same key notes;
  fewer = λ key. omega arith;
}

pub share_then : (notes : List Note) (keys : Keys) (middle : List Note) (middle_keys : Keys)
    (part : List Note) (part_keys : Keys) → IsShare notes keys middle middle_keys
    → IsShare middle middle_keys part part_keys → IsShare notes keys part part_keys
share_then notes keys middle middle_keys part part_keys one other = record {
  alike = λ key some once.
      alike_then key notes middle part
      (one.alike key (omega (arith, some, other.fewer key)) once)
      (other.alike key some (omega (arith, once, one.fewer key)));
  fewer = λ key. omega (arith, one.fewer key, other.fewer key);
}

pub share_left : (one other : List Note) (keys more : Keys) → Covers other more
    → IsShare (one ++ other) (keys ++ more) one keys
share_left one other keys more covers = record {
  alike = λ key some once.
      alike_left key one other
      (covers key (omega (arith, some, once, in_all-append hits keys more key)));
  fewer = λ key. omega (arith, in_all-append hits keys more key);
}

pub share_right : (one other : List Note) (keys more : Keys) → Covers one keys
    → IsShare (one ++ other) (keys ++ more) other more
share_right one other keys more covers = record {
  alike = λ key some once.
      alike_right key one other
      (covers key (omega (arith, some, once, in_all-append hits keys more key)));
  fewer = λ key. omega (arith, in_all-append hits keys more key);
}

-- by other keys that are as many
pub share_keys : (notes : List Note) (keys other : Keys) (part : List Note) (part_keys : Keys)
    → ((key : ℕ) → count keys key ≡ count other key) → IsShare notes other part part_keys
    → IsShare notes keys part part_keys
share_keys notes keys other part part_keys same is = record {
  alike = λ key some once. is.alike key some (omega (arith, once, same key));
  fewer = λ key. omega (arith, is.fewer key, same key);
}

-- More keys may be about.
pub share_next : (at : ℕ) (notes : List Note) (keys : Keys) → IsShare notes (at ∷ keys) notes keys
share_next at notes keys = record {
  alike = λ key some once. alike_same key notes;
  fewer = λ key. omega (arith, in_all-cons hits at keys key);
}

pub share_bare : (first notes : List Note) (keys : Keys) → AreBare first
    → IsShare (first ++ notes) keys notes keys
share_bare first notes keys bare = record {
  alike = λ key some once. alike_right key first notes (bare_lacks first key bare);
  fewer = λ key. omega arith;
}

pub share_before : (notes rest : List Note) (keys : Keys) → AreBare rest
    → IsShare (notes ++ rest) keys notes keys
share_before notes rest keys bare = record {
  alike = λ key some once. alike_left key notes rest (bare_lacks rest key bare);
  fewer = λ key. omega arith;
}

pub share_body : (body : BodyIso) (notes : List Note) (keys : Keys)
    → IsShare (Body body ∷ notes) keys notes keys
share_body body notes keys = record {
  alike = λ key some once. alike_body key body notes;
  fewer = λ key. omega arith;
}

-- The keys of a part are keys of the whole.
pub share_among : (notes : List Note) (keys : Keys) (part : List Note) (part_keys : Keys)
    → IsShare notes keys part part_keys → (key : ℕ) → Contains part_keys key → Contains keys key
share_among notes keys part part_keys is key has =
    contained keys key (omega (arith, counted part_keys key has, is.fewer key))

-- All that is noted of the keys of a part is noted of the part.
pub share_all : (all : List Note) (notes : List Note) (keys : Keys) (part : List Note)
    (part_keys : Keys) → IsShare notes keys part part_keys → IsDistinct nat_eq keys
    → IsAll all notes keys → IsAll all part part_keys
share_all all notes keys part part_keys is apart alone = record {
  kinds = λ key has. alone.kinds key (among key has) ∙ (alike key has).kinds;
  held = λ key has. alone.held key (among key has) ∙ (alike key has).held;
  vars = λ key has. alone.vars key (among key has) ∙ (alike key has).vars;
} where
  among : (key : ℕ) → Contains part_keys key → Contains keys key
  among = share_among notes keys part part_keys is

  alike : (key : ℕ) → Contains part_keys key → IsAlike key notes part
  alike key has = is.alike key (counted part_keys key has) (distinct_once keys apart key)

-- and the part's keys are distinct
pub share_apart : (notes : List Note) (keys : Keys) (part : List Note) (part_keys : Keys)
    → IsShare notes keys part part_keys → IsDistinct nat_eq keys → IsDistinct nat_eq part_keys
share_apart notes keys part part_keys is apart =
    IsDistinct-count part_keys (λ key.
    omega (arith, is.fewer key, distinct_once keys apart key))

-- Of distinct keys those after the first are distinct.
pub later_apart : (key : ℕ) (keys : Keys) → IsDistinct nat_eq (key ∷ keys) → IsDistinct nat_eq keys
later_apart key keys apart =
    IsDistinct-count keys (λ other.
    omega (arith, in_all-cons hits key keys other, distinct_once (key ∷ keys) apart other))

-- What stands earlier in distinct keys stands not later in them.
pub not_later : (earlier keys : Keys) (key : ℕ) → IsDistinct nat_eq (earlier ++ keys)
    → Contains earlier key → ¬ Contains keys key
not_later earlier keys key apart has later =
    absurd (omega (
      arith,
      in_all-append hits earlier keys key,
      distinct_once (earlier ++ keys) apart key,
      counted earlier key has,
      counted keys key later,
    ))

-- a part, with its scopes
pub record IsPart (notes : List Note) (keys : Keys) (scoped : Scoped) (part : List Note)
    (part_keys : Keys) (part_scoped : Scoped) : Type 0 where
  pub share : IsShare notes keys part part_keys
  pub within : IsWithin scoped part_scoped

-- A part of a tree stands where the tree does.
pub part_stands : (all : List Note) (sight : Sight) (notes : List Note) (keys : Keys)
    (scoped : Scoped) (part : List Note) (part_keys : Keys) (part_scoped : Scoped)
    → IsPart notes keys scoped part part_keys part_scoped
    → StandsInText all sight notes keys scoped
    → StandsInText all sight part part_keys part_scoped
part_stands all sight notes keys scoped part part_keys part_scoped is stands = record {
  alone = share_all all notes keys part part_keys is.share stands.apart stands.alone;
  apart = share_apart notes keys part part_keys is.share stands.apart;
  less = is.within.less stands.less;
  before = λ word has. stands.before word (is.within.free word has);
  own = all_of_each (λ me. All (λ key. me < key) part_keys) sight.me (λ me has.
      all_among (λ key. me < key) keys part_keys among
      (All-contains (λ me. All (λ key. me < key) keys) sight.me me stands.own has));
  elsewhere = λ key visible has. stands.elsewhere key visible (among key has);
} where
  among : (key : ℕ) → Contains part_keys key → Contains keys key
  among = share_among notes keys part part_keys is.share

-- by equations
pub part_by : (notes notes' : List Note) (keys keys' : Keys) (scoped scoped' : Scoped)
    (part : List Note) (part_keys : Keys) (part_scoped : Scoped) → notes ≡ notes'
    → keys ≡ keys' → scoped ≡ scoped'
    → IsPart notes' keys' scoped' part part_keys part_scoped
    → IsPart notes keys scoped part part_keys part_scoped
part_by notes notes' keys keys' scoped scoped' part part_keys part_scoped same those placed is =
    subst (λ n. IsPart n keys scoped part part_keys part_scoped) (sym same)
    (subst (λ k. IsPart notes' k scoped part part_keys part_scoped) (sym those)
    (subst (λ s. IsPart notes' keys' s part part_keys part_scoped) (sym placed) is))

pub part_then : (notes : List Note) (keys : Keys) (scoped : Scoped) (middle : List Note)
    (middle_keys : Keys) (middle_scoped : Scoped) (part : List Note) (part_keys : Keys)
    (part_scoped : Scoped) → IsPart notes keys scoped middle middle_keys middle_scoped
    → IsPart middle middle_keys middle_scoped part part_keys part_scoped
    → IsPart notes keys scoped part part_keys part_scoped
part_then notes keys scoped middle middle_keys middle_scoped part part_keys part_scoped one other =
    record {
      share = share_then notes keys middle middle_keys part part_keys one.share other.share;
      within = within_part scoped middle_scoped part_scoped one.within other.within;
    }

pub part_same : (notes : List Note) (keys : Keys) (scoped : Scoped)
    → IsPart notes keys scoped notes keys scoped
part_same notes keys scoped =
    record { share = share_same notes keys; within = within_same scoped }

pub part_left : (one other : List Note) (keys more : Keys) (scoped rest : Scoped)
    → Covers other more → IsPart (one ++ other) (keys ++ more) (both scoped rest) one keys scoped
part_left one other keys more scoped rest covers = record {
  share = share_left one other keys more covers;
  within = within_left scoped rest;
}

pub part_right : (one other : List Note) (keys more : Keys) (scoped rest : Scoped)
    → Covers one keys → IsPart (one ++ other) (keys ++ more) (both scoped rest) other more rest
part_right one other keys more scoped rest covers = record {
  share = share_right one other keys more covers;
  within = within_right scoped rest;
}

-- the same notes without the key of the form itself
pub part_next : (at : ℕ) (notes : List Note) (keys : Keys) (scoped : Scoped)
    → IsPart notes (at ∷ keys) scoped notes keys scoped
part_next at notes keys scoped =
    record { share = share_next at notes keys; within = within_same scoped }

-- the same notes by fewer keys
pub share_fewer : (notes : List Note) (keys part_keys : Keys)
    → ((key : ℕ) → count part_keys key ≤ count keys key) → IsShare notes keys notes part_keys
share_fewer notes keys part_keys fewer = record {
  alike = λ key some once. alike_same key notes;
  fewer = fewer;
}

-- by equations
pub share_by : (notes notes' : List Note) (keys keys' : Keys) (part : List Note) (part_keys : Keys)
    → notes ≡ notes' → keys ≡ keys' → IsShare notes' keys' part part_keys
    → IsShare notes keys part part_keys
share_by notes notes' keys keys' part part_keys same those is =
    subst (λ n. IsShare n keys part part_keys) (sym same)
    (subst (λ k. IsShare notes' k part part_keys) (sym those) is)
