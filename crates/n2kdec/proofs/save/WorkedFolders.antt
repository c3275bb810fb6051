-- What the model of a folder says of wrong ways to replace a text.
use Rattle.std.proofs.Common.{List, ℕ, [], ◌∷◌, Some, refl, inl, inr}
use Rattle.n2kdec.specs.System.Disk.{Why, rename, sync, write}
use Rattle.n2kdec.specs.Save.Folder.{Content, MayBeLeft, MayHave, Name, Target, Temp}
use Rattle.n2kdec.specs.Save.Replacement.{empty, make}
use Rattle.n2kdec.proofs.save.Replacing.{done}
use Rattle.n2kdec.specs.declared.save.destination.Destination.{Destination}

module _ (first : Name → Content) (d : Destination) (text any : List ℕ) (why : Why) where
  -- an old file that is emptied first may be found empty
  emptied : MayHave first (done (empty d) ∷ []) Target (Some [])
  emptied = refl

  -- and one that is written over may be left with any text, until its folder is synced
  written_over : MayBeLeft first (done sync ∷ done (write text) ∷ done (empty d) ∷ []) Target (Some any)
  written_over = tt

  -- of a file that has the name before it is synced a cut may leave any text
  renamed_early : MayBeLeft first (done (rename Temp Target) ∷ done (write text) ∷ done make ∷ []) Target (Some any)
  renamed_early = inr (any, tt, refl)

  -- so it may if a sync that failed is passed over
  sync_passed_over : MayBeLeft first (done (rename Temp Target) ∷ record { call = sync; failed = Some why } ∷ done (write text) ∷ done make ∷ []) Target (Some any)
  sync_passed_over = inr (any, tt, refl)

  -- if a write failed, the name may be found with any text
  failed_write : MayHave first (done (rename Temp Target) ∷ done sync ∷ record { call = write text; failed = Some why } ∷ done make ∷ []) Target (Some any)
  failed_write = tt

  -- as long as the folder is not synced, a cut may bring the old text back
  not_yet : MayBeLeft first (done (rename Temp Target) ∷ done sync ∷ done (write text) ∷ done make ∷ []) Target (first Target)
  not_yet = inl refl
