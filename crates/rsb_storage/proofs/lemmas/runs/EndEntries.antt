-- The first and the last entry of a list are those of its first and last runs.
use Rattle.std.proofs.Common.{◌≡◌, ◌↔◌, ℕ, ◌-◌, List, [], ◌∷◌, length, slice_get, Option, Some, None, MatchOption, option_map, refl, ◌∙◌, ap, arith}
use Rattle.std.proofs.lemmas.List.{length-map}
use Rattle.std.proofs.lemmas.Option.{get_or_from_slice_get, slice_get-map}
use Rattle.rsb_storage.specs.Storage.{entry_of, entry_run, run_of, runs_of}
use Rattle.rsb_storage.specs.Starts.{StartsWith}
use Rattle.rsb_storage.specs.declared.run.Run.{Run}

-- There are as many runs as entries.
pub length-runs_of : {T : Type 0} (rank : T → ℕ) (entries : List (T × T))
    → length (runs_of rank entries) ≡ length entries
length-runs_of rank entries = length-map entries (entry_run rank)

-- A list with no items is the empty list.
pub no-items : {X : Type 0} (items : List X) → (length items ≡ 0) ↔ (items ≡ [])
no-items [] = ((λ none. refl), (λ none. refl))
no-items (item ∷ items) = ((λ none. absurd (omega (arith, none))), (λ none. absurd (cc)))

module _ {T : Type 0} (rank : T → ℕ) where
  -- The first entry is that of the first run.
  pub first-run : (entries : List (T × T)) (first : T × T) → slice_get entries 0 ≡ Some first
      → StartsWith (runs_of rank entries) (entry_run rank first)
  first-run [] first found = absurd (cc)
  first-run (entry ∷ entries) first found = record {
    rest = runs_of rank entries;
    parts = ap (λ (each : T × T). entry_run rank each ∷ runs_of rank entries)
        (get_or_from_slice_get (entry ∷ entries) 0 first first found);
  }

  -- The last entry is that of the last run.
  pub last-run : (entries : List (T × T)) (last : T × T)
      → slice_get entries (length entries - 1) ≡ Some last
      → slice_get (runs_of rank entries) (length (runs_of rank entries) - 1)
      ≡ Some (entry_run rank last)
  last-run entries last found =
      rw (length-runs_of rank entries)
      (slice_get-map (entry_run rank) entries (length entries - 1)
      ∙ ap (option_map (entry_run rank)) found)

  -- If the entries start with the entry of a run, their runs start with that run. If there are no
  -- entries, there are no runs.
  pub first-entry : (entries later : List (T × T)) (first : Option (Run T))
      → MatchOption first (entries ≡ []) (λ run. entries ≡ entry_of run ∷ later)
      → MatchOption first (runs_of rank entries ≡ [])
      (λ run. StartsWith (runs_of rank entries) (run_of rank run))
  first-entry entries later None none = ap (runs_of rank) none
  first-entry entries later (Some run) is =
      record { rest = runs_of rank later; parts = ap (runs_of rank) is }
