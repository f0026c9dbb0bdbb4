-- The words before a `.` that name enums: their keys are keys of what stands there, and how often a
-- thing is said of a base and of a member, with them.
use Rattle.std.proofs.Common.{◌≡◌, ℕ, ◌+◌, ◌≤◌, Bool, false, List, [], ◌∷◌, Option, None, Some}
use Rattle.std.proofs.Common.{arith, ap}
use Rattle.sw_tree.proofs.Counting.{Weight, count, hits, in_all, in_all-cons, in_all-nil}
use Rattle.sw_tree.proofs.KeyCounts as keys
use Rattle.sw_tree.proofs.KeyCounts.{in_expr}
use Rattle.sw_tree.specs.declared.expr.Expr.{Expr}
use Rattle.sw_tree.specs.declared.name.Name.{Name}
use Rattle.sw_typing_rules.specs.Expressions as exps
use Rattle.sw_typing_rules.specs.Expressions.{Judged}
use Rattle.sw_typing_rules.specs.Judges as is
use Rattle.sw_typing_rules.specs.Words.{Setting}
use Rattle.sw_typing_rules.specs.Worlds.{World}
use Rattle.sw_typing_rules.specs.declared.row.Row.{Row}
use Rattle.sw_typing_facts.specs.EnumWords as words
use Rattle.sw_typing_facts.proofs.Said.Counts as rows
use Rattle.sw_typing_facts.proofs.Said.Counts.{Counts}
use Rattle.sw_typing_facts.proofs.Said.EnumNames.{links_enum, member_no_enum}

-- no words, and one
pub none : (k : ℕ) → count [] k ≡ 0
none k = in_all-nil hits k

one : (key k : ℕ) → count (key ∷ []) k ≡ hits key k
one key k = omega (arith, in_all-cons hits key [] k, none k)

module _ (world : World) where
  -- The key of a word that names an enum is one of the expression's.
  pub enum_key : (s : Setting) (m : Bool) (e : Expr) (j : Judged) → is.Judges world s m e j
      → (shape : ℕ) → j.enum ≡ Some shape → (k : ℕ) → hits j.key k ≤ in_expr e k
  enum_key s m e j (is.int _ _ at value) shape named k = cc
  enum_key s m e j (is.bool _ _ at value) shape named k = cc
  enum_key s m e j (is.word _ _ name) shape named k = omega (arith, keys.in_expr-Use name k)
  enum_key s m e j (is.me _ _ at) shape named k = cc
  enum_key s m e j (is.member _ _ base name judged d) shape named k =
      absurd (member_no_enum world judged name shape named)
  enum_key s m e j (is.call _ _ name args passed d) shape named k = cc
  enum_key s m e j (is.method _ _ base name args judged passed of_base d) shape named k = cc
  enum_key s m e j (is.chain _ _ first rest l _ of_first d) shape named k =
      let alone = links_enum world s l j rest d shape named in
      let same = ap (λ key. hits key k) alone.2 in
      omega (
        arith,
        enum_key s false first l of_first shape alone.1 k,
        same,
        keys.in_expr-Chain first rest k,
      )
  enum_key s m e j (is.prefix _ _ op at inner judged d) shape named k = cc
  enum_key s m e j (is.await _ _ at inner judged d) shape named k = cc
  enum_key s m e j (is.fun _ _ closure closed d) shape named k = cc
  enum_key s m e j (is.spawn _ _ at detached body closed d) shape named k = cc
  enum_key s m e j (is.yield _ _ at) shape named k = cc

module _ (w : Row → Weight) (counts : Counts w) (world : World) where
  -- what is said of a base, with the words that name enums in it
  pub base_count : (base : Judged) (enum : Option ℕ) (inner : List ℕ) (k all : ℕ)
      → in_all w base.rows k + count inner k ≤ all
      → ((shape : ℕ) → base.enum ≡ Some shape → hits base.key k ≤ all) → base.enum ≡ enum
      → in_all w (exps.rows_by enum base.rows) k + count (words.base_by base.key enum inner) k ≤ all
  base_count base None inner k all value key named = value
  base_count base (Some shape) inner k all value key named =
      omega (arith, in_all-nil w k, one base.key k, key shape named)

  -- and of a member
  pub member_count : (base : Judged) (enum : Option ℕ) (name : Name) (inner : List ℕ) (k all : ℕ)
      → in_all w base.rows k + count inner k ≤ all
      → ((shape : ℕ) → base.enum ≡ Some shape → hits base.key k ≤ all) → base.enum ≡ enum
      → in_all w (exps.member_by world base enum name).rows k
      + count (words.base_by base.key enum inner) k ≤ all + hits name.at k
  member_count base None name inner k all value key named =
      omega (arith, rows.value_member w counts world base base.ty name k, value)
  member_count base (Some shape) name inner k all value key named =
      omega (arith, rows.case_named w counts world shape name k, one base.key k, key shape named)
