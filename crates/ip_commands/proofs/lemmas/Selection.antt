-- How what operations select is written.
use Rattle.std.proofs.Common.{◌≡◌, ◌∙◌, ℕ, ◌+◌, ◌^◌, Bool, true, false, ◌&&◌, ◌||◌, cond, nat_lt, zero, List, [], ◌∷◌, ◌++◌, length, Option, inl, inr, suc, refl, ap, sym, subst, arith, length-append}
use Rattle.std.proofs.lemmas.Bool.{cases_lt}
use Rattle.std.proofs.lemmas.Bool.Decides.{nat_tests}
use Rattle.std.specs.Prelude.{Err, IfOk, Ok, Result}
use Rattle.range_set_blaze.specs.Runs.{AreRuns, Interval, from_to, members}
use Rattle.range_set_blaze.specs.Selection.{Agree, Selection}
use Rattle.rsb_integer.proofs.lemmas.Members.{members-cons}
use Rattle.rsb_integer.proofs.lemmas.Runs.{runs-members}
use Rattle.rsb_streams.specs.Stream.{◌⊆◌, Outcomes}
use Rattle.ip_sets.specs.List.{has_bytes}
use Rattle.ip_sets.specs.Operation.{selected_by}
use Rattle.ip_sets.specs.declared.operations.Operation.{Operation}
use Rattle.ip_commands.specs.Selection.{WritesSelected}
use Rattle.ip_commands.proofs.lemmas.Appends.{Appends-then}
use Rattle.ip_commands.proofs.lemmas.Lines.{WritesV4, WritesV6, both-lines, v4-lines, v6-lines}
use Rattle.ip_commands.specs.declared.request.Families.{Families}
use Rattle.ip_commands.specs.declared.request.Families.TheVariants.{Both, V4, V6}
use Rattle.ip_commands.specs.declared.request.Form.{Form}

-- ---- a list with the ranks of a set

-- Whether the list has the ranks of the set below n, and no others.
abbrev HasBelow : ℕ → Selection → List Interval → Type 0
HasBelow n selected runs = (rank : ℕ) → members runs rank ≡ (nat_lt rank n && selected rank)

-- The next rank is put in front if the set has it.
has-next : (n : ℕ) (selected : Selection) (runs : List Interval) (here : Bool) → selected n ≡ here
    → HasBelow n selected runs → HasBelow (suc n) selected (cond here (from_to n n ∷ runs) runs)
has-next n selected runs true is has rank = elim (cases_lt rank n) [
  | inl below ↦ members-cons (from_to n n) runs rank ∙ (
      let before = has rank in
      grind (arith, nat_tests, before))
  | inr above ↦ elim (cases_lt n rank) [
    | inl past ↦ members-cons (from_to n n) runs rank ∙ (
        let before = has rank in
        grind (arith, nat_tests, before))
    | inr same ↦ members-cons (from_to n n) runs rank ∙ (
        let equal : rank ≡ n = omega (arith, above, same) in
        let chosen : selected rank ≡ true = ap selected equal ∙ is in
        grind (arith, nat_tests, chosen))
  ]
]
has-next n selected runs false is has rank = elim (cases_lt rank n) [
  | inl below ↦ (
      let before = has rank in
      grind (arith, nat_tests, before))
  | inr above ↦ elim (cases_lt n rank) [
    | inl past ↦ (
        let before = has rank in
        grind (arith, nat_tests, before))
    | inr same ↦ (
        let equal : rank ≡ n = omega (arith, above, same) in
        let chosen : selected rank ≡ false = ap selected equal ∙ is in
        let before = has rank in
        grind (arith, nat_tests, before, chosen))
  ]
]

-- There is such a list.
some-runs : (n : ℕ) (selected : Selection)
    → (runs : List Interval) × HasBelow n selected runs
some-runs zero selected = ([], λ rank. grind (arith, nat_tests))
some-runs (suc n) selected =
    let before = some-runs n selected in (
      cond (selected n) (from_to n n ∷ before.0) before.0,
      has-next n selected before.0 (selected n) refl before.1,
    )

-- It has the members of the set.
agrees : (n : ℕ) (selected : Selection) (runs : List Interval) → HasBelow n selected runs
    → Agree n (members runs) selected
agrees n selected runs has rank below =
    let is = has rank in
    grind (arith, nat_tests, is)

-- ---- what is written

-- Two texts one after the other have a byte exactly if one of them has.
either-has : (one other : Bool) (xs ys : List ℕ) → one ≡ has_bytes xs → other ≡ has_bytes ys
    → (one || other) ≡ has_bytes (xs ++ ys)
either-has one other [] ys is is_too = rw (is, is_too) refl
either-has one other (x ∷ xs) ys is is_too = rw is (
    let many : length (x ∷ xs ++ ys) ≡ length (x ∷ xs) + length ys = length-append (x ∷ xs) ys in
    grind (arith, nat_tests, many))

module _ (sign : List ℕ) (form : Form) (families : Families) (these those : Selection)
    (first_may last_may : Outcomes)
    (first_only : first_may ⊆ AreRuns (2 ^ 32) these)
    (last_only : last_may ⊆ AreRuns (2 ^ 128) those) where
  -- Whether what was selected was written, in some of the families.
  abbrev Kept : Bool → Families → Option (List ℕ) → Option (List ℕ) → Type 0
  Kept some which old new = WritesSelected some sign form which these those old new

  -- Both families were written.
  pub both-selected : (old mid new : Option (List ℕ)) (has_v4 has_v6 some : Bool)
      → families ≡ Both → (has_v4 || has_v6) ≡ some
      → (runs : List Interval) × first_may runs × WritesV4 has_v4 sign form runs old mid
      → (runs : List Interval) × last_may runs × WritesV6 has_v6 sign form runs mid new
      → Kept some families old new
  both-selected old mid new has_v4 has_v6 some is either first last =
      let v4 = first.2 in
      let v6 = last.2 in
      let whole : Kept some Both old new = record {
        v4_runs = first.0;
        v6_runs = last.0;
        v4_made = runs-members (2 ^ 32) these first.0 (first_only first.0 first.1);
        v6_made = runs-members (2 ^ 128) those last.0 (last_only last.0 last.1);
        text = v4.0 ++ v6.0;
        whole = both-lines sign form first.0 last.0 v4.0 v6.0 v4.1 v6.1;
        written = Appends-then old mid new v4.0 v6.0 v4.2 v6.2;
        has_line = sym either ∙ either-has has_v4 has_v6 v4.0 v6.0 v4.3 v6.3;
      } in
      subst (λ which. Kept some which old new) (sym is) whole

  -- Only IPv4 was written.
  pub v4-selected : {E : Type 0} (result : Result Bool E) (old new : Option (List ℕ))
      → families ≡ V4
      → IfOk result (λ some. (runs : List Interval) × first_may runs
      × WritesV4 some sign form runs old new)
      → IfOk result (λ some. Kept some families old new)
  v4-selected (Ok some) old new is first =
      let v4 = first.2 in
      let others = some-runs (2 ^ 128) those in
      let whole : Kept some V4 old new = record {
        v4_runs = first.0;
        v6_runs = others.0;
        v4_made = runs-members (2 ^ 32) these first.0 (first_only first.0 first.1);
        v6_made = agrees (2 ^ 128) those others.0 others.1;
        text = v4.0;
        whole = v4-lines sign form first.0 others.0 v4.0 [] v4.1;
        written = v4.2;
        has_line = v4.3;
      } in
      subst (λ which. Kept some which old new) (sym is) whole
  v4-selected (Err error) old new is first = tt

  -- Only IPv6 was written.
  pub v6-selected : {E : Type 0} (result : Result Bool E) (old new : Option (List ℕ))
      → families ≡ V6
      → IfOk result (λ some. (runs : List Interval) × last_may runs
      × WritesV6 some sign form runs old new)
      → IfOk result (λ some. Kept some families old new)
  v6-selected (Ok some) old new is last =
      let v6 = last.2 in
      let others = some-runs (2 ^ 32) these in
      let whole : Kept some V6 old new = record {
        v4_runs = others.0;
        v6_runs = last.0;
        v4_made = agrees (2 ^ 32) these others.0 others.1;
        v6_made = runs-members (2 ^ 128) those last.0 (last_only last.0 last.1);
        text = v6.0;
        whole = v6-lines sign form others.0 last.0 [] v6.0 v6.1;
        written = v6.2;
        has_line = v6.3;
      } in
      subst (λ which. Kept some which old new) (sym is) whole
  v6-selected (Err error) old new is last = tt

-- If the operation is the one that was asked for, what was asked for was written.
pub as-asked : {E : Type 0} (operation which : Operation) (v4 v6 : List Selection) (form : Form)
    (families : Families) (result : Result Bool E) (old new : Option (List ℕ))
    → operation ≡ which
    → IfOk result (λ some. WritesSelected some [] form families (selected_by which v4)
    (selected_by which v6) old new)
    → IfOk result (λ some. WritesSelected some [] form families (selected_by operation v4)
    (selected_by operation v6) old new)
as-asked operation which v4 v6 form families result old new is written =
    subst (λ each. IfOk result (λ some. WritesSelected some [] form families (selected_by each v4)
    (selected_by each v6) old new)) (sym is) written
