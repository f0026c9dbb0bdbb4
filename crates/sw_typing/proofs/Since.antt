-- What a step notes after what was noted of a part since the table had `start` rows.
use Rattle.std.proofs.Common.{◌≡◌, ◌++◌, ℕ, Bool, List, [], Option, append_assoc, ap, drop}
use Rattle.std.proofs.Common.{length, refl, take, ◌∙◌}
use Rattle.std.proofs.lemmas.List.{drop_at, take_at}
use Rattle.sw_tree.specs.declared.expr.Link.{Link}
use Rattle.sw_tree.specs.declared.name.Name.{Name}
use Rattle.sw_types.specs.declared.shape.CaseShape.{CaseShape}
use Rattle.sw_typing_rules.specs.Expressions.{Judged, base_rows, member_judged, rows_by}
use Rattle.sw_typing_rules.specs.Statements.{Head, Left, State, plain_left, return_value}
use Rattle.sw_typing_rules.specs.Statements.{switch_left}
use Rattle.sw_typing_rules.specs.Worlds.{World}
use Rattle.sw_typing_rules.specs.declared.row.Row.{Row}
use Rattle.sw_typing_rules.specs.declared.verdict.Given.{Given}
use Rattle.sw_typing_steps.specs.Steps.{after, cut, judged_of, judged_since, known_of, left_since}
use Rattle.sw_typing_steps.specs.Steps.{setting_in, state_of, went_of}
use Rattle.sw_typing_steps.specs.declared.known.Known.{Known}
use Rattle.sw_typing_steps.specs.declared.known.Went.{Went}
use Rattle.sw_typing_steps.specs.declared.table.Table.{Table}
use Rattle.sw_typing.specs.Walked.{links_known}

pub rows_after : (a b c : List Row) → (a ++ b) ++ c ≡ a ++ (b ++ c)
rows_after a b c = append_assoc a b c

pub given_after : (a b c : List Given) → (a ++ b) ++ c ≡ a ++ (b ++ c)
given_after a b c = append_assoc a b c

pub state_vars : (table : Table) (s : State) → state_of table ≡ s → table.vars ≡ s.vars
state_vars table s p = ap (λ (x : State). x.vars) p

pub state_returned : (table : Table) (s : State) → state_of table ≡ s
    → table.returned ≡ s.returned
state_returned table s p = ap (λ (x : State). x.returned) p

-- a table in which an expression was noted after what the table before it had
module _ (value : Known) (j : Judged) (start : ℕ) (mid old : Table) (p : value ≡ known_of j)
    (q : mid.rows ≡ old.rows ++ j.rows) (r : start ≡ length old.rows) where
  drop_is : drop start mid.rows ≡ j.rows
  drop_is = ap (drop start) q ∙ ap (λ n. drop n (old.rows ++ j.rows)) r
      ∙ drop_at old.rows j.rows (length old.rows) refl

  pub take_is : take start mid.rows ≡ old.rows
  take_is = ap (take start) q ∙ ap (λ n. take n (old.rows ++ j.rows)) r
      ∙ take_at old.rows j.rows (length old.rows) refl

  since_is : judged_since value start mid ≡ j
  since_is = ap (λ k. judged_of k (drop start mid.rows)) p ∙ ap (judged_of (known_of j)) drop_is

  since_rows : (F : Judged → List Row)
      → take start mid.rows ++ F (judged_since value start mid) ≡ old.rows ++ F j
  since_rows F = ap (λ rows. rows ++ F (judged_since value start mid)) take_is
      ∙ ap (λ k. old.rows ++ F k) since_is

pub member_rows : (world : World) (name : Name) (base : Known) (j : Judged) (start : ℕ)
    (mid old : Table) → base ≡ known_of j → mid.rows ≡ old.rows ++ j.rows
    → start ≡ length old.rows
    → take start mid.rows ++ (member_judged world (judged_since base start mid) name).rows
    ≡ old.rows ++ (member_judged world j name).rows
member_rows world name base j start mid old p q r =
    since_rows base j start mid old p q r (λ k. (member_judged world k name).rows)

pub base_rows_since : (base : Known) (j : Judged) (start : ℕ) (mid old : Table)
    → base ≡ known_of j → mid.rows ≡ old.rows ++ j.rows → start ≡ length old.rows
    → take start mid.rows ++ rows_by base.names (drop start mid.rows)
    ≡ old.rows ++ base_rows j
base_rows_since base j start mid old p q r =
    since_rows base j start mid old p q r (λ k. base_rows k)

pub chain_is : (world : World) (owner : Option ℕ) (links : List Link) (first : Known) (j : Judged)
    (start : ℕ) (mid old : Table) → first ≡ known_of j → mid.rows ≡ old.rows ++ j.rows
    → start ≡ length old.rows → mid.vars ≡ old.vars
    → links_known world links (setting_in owner mid) (judged_since first start mid)
    ≡ links_known world links (setting_in owner old) j
chain_is world owner links first j start mid old p q r v =
    ap (λ vars. links_known world links (record { owner = owner; vars = vars })
    (judged_since first start mid)) v
    ∙ ap (links_known world links (setting_in owner old)) (since_is first j start mid old p q r)

pub return_rows : (at : ℕ) (value : Known) (j : Judged) (start : ℕ) (mid old : Table)
    → value ≡ known_of j → mid.rows ≡ old.rows ++ j.rows → start ≡ length old.rows
    → mid.vars ≡ old.vars → mid.returned ≡ old.returned
    → take start mid.rows
    ++ (return_value mid.returned (state_of mid) at (judged_since value start mid)).rows
    ≡ old.rows ++ (return_value old.returned (state_of old) at j).rows
return_rows at value j start mid old p q r v w =
    ap (λ vars. take start mid.rows ++ (return_value mid.returned
    (record { vars = vars; returned = mid.returned }) at (judged_since value start mid)).rows) v
    ∙ ap (λ x. take start mid.rows ++ (return_value x
    (record { vars = old.vars; returned = x }) at (judged_since value start mid)).rows) w
    ∙ since_rows value j start mid old p q r
    (λ k. (return_value old.returned (state_of old) at k).rows)

pub plain_rows : (only : Bool) (value : Known) (j : Judged) (start : ℕ) (mid old : Table)
    → value ≡ known_of j → mid.rows ≡ old.rows ++ j.rows → start ≡ length old.rows
    → mid.vars ≡ old.vars → mid.returned ≡ old.returned
    → take start mid.rows ++ (plain_left only (state_of mid) (judged_since value start mid)).rows
    ≡ old.rows ++ (plain_left only (state_of old) j).rows
plain_rows only value j start mid old p q r v w =
    ap (λ vars. take start mid.rows ++ (plain_left only
    (record { vars = vars; returned = mid.returned }) (judged_since value start mid)).rows) v
    ∙ ap (λ x. take start mid.rows ++ (plain_left only
    (record { vars = old.vars; returned = x }) (judged_since value start mid)).rows) w
    ∙ since_rows value j start mid old p q r (λ k. (plain_left only (state_of old) k).rows)

-- the end of a `switch`, of which the subject and the arms were noted after what the table had
pub switch_rows : (cases : Option (List CaseShape)) (at : ℕ) (heads : List Head) (otherwise : Bool)
    (subject : Known) (j : Judged) (inner : Went) (l : Left) (start : ℕ) (mid old : Table)
    → subject ≡ known_of j → inner ≡ went_of l → state_of mid ≡ l.state
    → mid.rows ≡ old.rows ++ (j.rows ++ l.rows) → start ≡ length old.rows
    → after (cut start mid) (switch_left cases at (judged_of subject []) heads otherwise
    (left_since inner start mid)) ≡ after old (switch_left cases at j heads otherwise l)
switch_rows cases at heads otherwise subject j inner l start mid old p w s q r =
    let whole = judged_of (known_of j) (j.rows ++ l.rows) in
    ap (λ k. after (cut start mid) (switch_left cases at (judged_of k []) heads otherwise
    (left_since inner start mid))) p
    ∙ ap (λ k. after (cut start mid) (switch_left cases at (judged_of (known_of j) []) heads
    otherwise (left_since k start mid))) w
    ∙ ap (λ (x : State). after (cut start mid) (switch_left cases at (judged_of (known_of j) [])
    heads otherwise (record {
      state = x;
      rows = drop start mid.rows;
      fine = l.fine;
      ends = l.ends;
      breaks = l.breaks;
    }))) s
    ∙ ap (λ rows. after (record mid { rows = take start mid.rows })
    (switch_left cases at (judged_of (known_of j) []) heads otherwise (record l { rows = rows })))
    (ap (drop start) q ∙ ap (λ n. drop n (old.rows ++ (j.rows ++ l.rows))) r
    ∙ drop_at old.rows (j.rows ++ l.rows) (length old.rows) refl)
    ∙ ap (λ rows. after (record mid { rows = rows }) (switch_left cases at
    (judged_of (known_of j) []) heads otherwise (record l { rows = j.rows ++ l.rows })))
    (ap (take start) q ∙ ap (λ n. take n (old.rows ++ (j.rows ++ l.rows))) r
    ∙ take_at old.rows (j.rows ++ l.rows) (length old.rows) refl)
    ∙ ap (λ rows. record {
      vars = l.state.vars;
      rows = old.rows ++ rows;
      returned = l.state.returned;
    }) (append_assoc j.rows l.rows _)
