-- The names of the files whose list has an address.
use Rattle.std.proofs.Common.{◌≡◌, ◌∙◌, ℕ, Bool, true, false, cond, Bor, List, [], ◌∷◌, ◌++◌, map, Some, None, refl, sym, ap, subst, inl, inr}
use Rattle.std.proofs.lemmas.Iterator.{zips}
use Rattle.std.proofs.iter.Yields.{fronts}
use Rattle.std.proofs.lemmas.List.{append-nil, map-append}
use Rattle.std.proofs.lemmas.List.Elements.{filter-append}
use Rattle.std.proofs.lemmas.Simd.{map-map}
use Rattle.std.proofs.lemmas.Slice.Zip.{Zip-more, either_empty_from_Zip}
use Rattle.std.specs.Iterator.{Yields}
use Rattle.std.specs.Iterator.Adapters.{zip_first, zip_second}
use Rattle.std.specs.List.{filter, zip}
use Rattle.std.specs.Slice.Iter.{iter_rest}
use Rattle.std.specs.declared.iter.Zip.{Zip}
use Rattle.std.specs.declared.slice.Iter.{Iter}
use Rattle.ip_sets.specs.declared.list.AddressList.{AddressList}
use Rattle.ip_commands.specs.Answer.{found_outcome, names_with}
use Rattle.ip_commands.specs.Files.{Selected, selected}
use Rattle.ip_commands.specs.declared.commands.Outcome.TheVariants.{Done}

-- A file beside its list, as names and selections.
abbrev pub pair_of : {A : Type 0} → Bor (Bor (List ℕ)) × Bor (AddressList A) → List ℕ × Selected
pair_of pair = (pair.0.now.now, selected pair.1.now)

-- The names of the files whose list passes the test.
abbrev pub names_of : (Selected → Bool) → List (List ℕ × Selected) → List (List ℕ)
names_of test pairs = map (λ (pair : List ℕ × Selected). pair.0)
    (filter (λ (pair : List ℕ × Selected). test pair.1) pairs)

-- ---- one more file

module _ (test : Selected → Bool) (pairs : List (List ℕ × Selected)) (pair : List ℕ × Selected)
  where
    -- The names with one more file.
    names-more : names_of test (pairs ++ pair ∷ [])
        ≡ names_of test pairs ++ names_of test (pair ∷ [])
    names-more =
        ap (map (λ (each : List ℕ × Selected). each.0))
        (filter-append (λ (each : List ℕ × Selected). test each.1) pairs (pair ∷ []))
        ∙ map-append (λ (each : List ℕ × Selected). each.0)
        (filter (λ (each : List ℕ × Selected). test each.1) pairs)
        (filter (λ (each : List ℕ × Selected). test each.1) (pair ∷ []))

    -- Its list passes the test.
    pub names-found : test pair.1 ≡ true
        → names_of test (pairs ++ pair ∷ []) ≡ names_of test pairs ++ pair.0 ∷ []
    names-found passes =
        let One : Bool → Type 0 = λ each. map (λ (each : List ℕ × Selected). each.0)
        (cond each (pair ∷ []) []) ≡ pair.0 ∷ [] in
        let found : One true = refl in
        names-more ∙ ap (λ names. names_of test pairs ++ names) (subst One (sym passes) found)

    -- Its list fails the test.
    pub names-lacking : test pair.1 ≡ false
        → names_of test (pairs ++ pair ∷ []) ≡ names_of test pairs
    names-lacking fails =
        let One : Bool → Type 0 = λ each. map (λ (each : List ℕ × Selected). each.0)
        (cond each (pair ∷ []) []) ≡ [] in
        let lacking : One false = refl in
        names-more ∙ ap (λ names. names_of test pairs ++ names) (subst One (sym fails) lacking)
        ∙ append-nil (names_of test pairs)

-- If there is one more name, there is one.
pub found-more : (names : List (List ℕ)) (name : List ℕ) → found_outcome (names ++ name ∷ []) ≡ Done
found-more [] name = refl
found-more (first ∷ names) name = refl

-- ---- all files

-- A list has no pairs with an empty one.
zip-nil : {X Y : Type 0} (xs : List X) → let none : List Y = [] in zip xs none ≡ []
zip-nil [] = refl
zip-nil (x ∷ xs) = refl

-- The pairs of what two lists are mapped to.
zip-map : {X Y V W : Type 0} (f : X → V) (g : Y → W) (xs : List X) (ys : List Y)
    → zip (map f xs) (map g ys) ≡ map (λ (pair : X × Y). (f pair.0, g pair.1)) (zip xs ys)
zip-map f g [] ys = refl
zip-map f g (x ∷ xs) [] = refl
zip-map f g (x ∷ xs) (y ∷ ys) = ap (λ pairs. (f x, g y) ∷ pairs) (zip-map f g xs ys)

-- What two slices gave until `None` is what they had, in pairs.
pub zip-yielded : {X Y : Type 0} (items : List (Bor X × Bor Y)) (s t u : Zip (Iter X) (Iter Y))
    → Yields (zips fronts fronts) s items t → zips fronts fronts t None u
    → map (λ (pair : Bor X × Bor Y). (pair.0.now, pair.1.now)) items
    ≡ zip (iter_rest (zip_first s)) (iter_rest (zip_second s))
zip-yielded [] s t u calls end =
    elim (either_empty_from_Zip s u None refl
    (subst (λ each. zips fronts fronts each None u) (sym calls) end)) [
      | inl none ↦ sym (ap (λ xs. zip xs (iter_rest (zip_second s))) none)
      | inr none ↦ sym (ap (λ ys. zip (iter_rest (zip_first s)) ys) none
          ∙ zip-nil (iter_rest (zip_first s)))
    ]
zip-yielded (item ∷ items) s t u calls end =
    let one = Zip-more s calls.0 (Some item) item refl calls.1 in
    ap (λ pairs. (item.0.now, item.1.now) ∷ pairs) (zip-yielded items calls.0 t u calls.2 end)
    ∙ sym (ap (λ xs. zip xs (iter_rest (zip_second s))) one.0
    ∙ ap (λ ys. zip (item.0.now ∷ iter_rest (zip_first calls.0)) ys) one.1)

-- The names of all files, from the pairs that the loop had.
pub names-all : {A : Type 0} (test : Selected → Bool) (files : List (Bor (List ℕ)))
    (lists : List (AddressList A)) (items : List (Bor (Bor (List ℕ)) × Bor (AddressList A)))
    → map (λ (pair : Bor (Bor (List ℕ)) × Bor (AddressList A)). (pair.0.now, pair.1.now)) items
    ≡ zip files lists
    → names_of test (map pair_of items) ≡ names_with test (map (λ name. name.now) files)
    (map selected lists)
names-all {A = A} test files lists items same =
    let name_list : Bor (List ℕ) × AddressList A → List ℕ × Selected =
    λ pair. (pair.0.now, selected pair.1) in
    let pairs : map pair_of items ≡ zip (map (λ (name : Bor (List ℕ)). name.now) files)
    (map selected lists) =
    sym (map-map name_list
    (λ (pair : Bor (Bor (List ℕ)) × Bor (AddressList A)). (pair.0.now, pair.1.now)) items)
    ∙ ap (map name_list) same
    ∙ sym (zip-map (λ (name : Bor (List ℕ)). name.now) selected files lists) in
    ap (names_of test) pairs
