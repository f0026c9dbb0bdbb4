-- Properties of what is noted of trees, by how often each key stands in the tree.
use Rattle.std.specs.Prelude.{ℕ, ◌+◌, ◌≤◌, Bool, true, List, [], ◌++◌, map, Option}
use Rattle.sw_tree.proofs.Counting.{Weight, hits}
use Rattle.sw_tree.specs.declared.name.Name.{Name}
use Rattle.sw_typing_rules.specs.Worlds.{World}
use Rattle.sw_isolation_rules.specs.Answers.{Answers}
use Rattle.sw_isolation_rules.specs.Captures.{closed}
use Rattle.sw_isolation_rules.specs.Noting.{NotedClosure, Notes, await_notes, fun_notes, in_await}
use Rattle.sw_isolation_rules.specs.Noting.{inner_notes, store_notes, task_notes, use_notes, used_at}
use Rattle.sw_isolation_rules.specs.Noting.{var_notes, with_list}
use Rattle.sw_isolation_rules.specs.declared.note.Mention.{Mention}
use Rattle.sw_isolation_rules.specs.declared.note.Note.{Note}
use Rattle.sw_isolation_rules.specs.declared.note.Note.TheVariants.{Mentioned}
use Rattle.sw_isolation_rules.specs.declared.uses.Base.{Base}
use Rattle.sw_isolation_rules.specs.declared.uses.Context.{Context}

-- no key at all
abbrev pub none : Weight
none key = 0

-- Each key stands in one at most as often as in another.
abbrev pub IsWithin : Weight → Weight → Type 0
IsWithin one other = (key : ℕ) → one key ≤ other key

abbrev pub together : Weight → Weight → Weight
together one other key = one key + other key

-- what is noted of a property in each context that fits
abbrev pub Goes : (Context → Weight → Type 0) → (List Note → Weight → Type 0) → Notes → Weight
    → Type 0
Goes Fits Has notes keys = (context : Context) (listed : List ℕ) → Fits context keys
    → Has (notes context listed) keys

module _ (world : World) (answers : Answers) where
  -- a closure or the body of a task, by the words that it lists and what is noted of its block
  abbrev pub noted_closure : ℕ → Option Name → List Name → Notes → NotedClosure
  noted_closure at mark captures body = record {
    at = at;
    mark = mark;
    inside = λ context listed.
        closed world context at (with_list world answers context listed captures)
        (inner_notes world answers captures body context listed);
  }

  -- `Has` says of notes what is so if they are noted of a tree with these keys, where the context
  -- `Fits` them, and `Stored` of those of an assignment. It is so of each form's own notes, and of
  -- notes after each other.
  pub record NotedByKeys : Type 1 where
    pub Fits : Context → Weight → Type 0
    pub Has : List Note → Weight → Type 0
    pub Stored : List Note → Type 0
    pub fewer : (context : Context) (some all : Weight) → IsWithin some all → Fits context all
        → Fits context some
    pub awaited : (context : Context) (keys : Weight) → Fits context keys
        → Fits (in_await context) keys
    pub more : (notes : List Note) (some all : Weight) → IsWithin some all → Has notes some
        → Has notes all
    pub nothing : (keys : Weight) → Has [] keys
    pub join : (one other : List Note) (some more all : Weight)
        → IsWithin (together some more) all → Has one some → Has other more
        → Has (one ++ other) all
    pub mentions : (these : List Mention) → Has (map Mentioned these) none
    pub used : (context : Context) (base : Base) (at : ℕ)
        → Has (use_notes context at (used_at world answers context base at)) (hits at)
    pub stored_nothing : Stored []
    pub stored : (context : Context) (base : Base) (at place : ℕ) (inside : List Note)
        → Stored inside
        → Stored (store_notes context place (used_at world answers context base at) inside)
    pub of_stored : (notes : List Note) → Stored notes → Has notes none
    pub variable : (mutable : Bool) (at : ℕ) → Has (var_notes mutable at) (hits at)
    pub awaits : (context : Context) (at : ℕ) → Has (await_notes context at true) none
    pub fun : (at : ℕ) (mark : Option Name) (captures : List Name) (body : Notes) (keys : Weight)
        → Goes Fits Has body keys
        → Goes Fits Has (fun_notes world answers (noted_closure at mark captures body))
        (together (hits at) keys)
    pub task : (place : ℕ) (detached : Bool) (at : ℕ) (mark : Option Name) (captures : List Name)
        (body : Notes) (keys : Weight) → Goes Fits Has body keys
        → Goes Fits Has
        (task_notes world answers place detached (noted_closure at mark captures body))
        (together (hits at) keys)
