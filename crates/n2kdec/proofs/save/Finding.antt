-- From link to link, up to where a name leads.
use Rattle.std.proofs.Common.{◌≡◌, ◌<◌, ◌-◌, ℕ, suc, None, Ok, Err, if◌then◌else◌, refl, ap, arith}
use Rattle.std.specs.declared.io.ErrorKind.TheVariants.{FilesystemLoop}
use Rattle.clap.specs.Words.{Text}
use Rattle.n2k_wire.specs.Steps.{◌>>=◌}
use Rattle.n2kdec.specs.Save.Destination.{link_target, is_open_file, linked, onward}
use Rattle.n2kdec.specs.System.Disk.{Answers, OfKind}

pub none_left : (a : Answers) (path : Text) → link_target 0 a path ≡ Err (OfKind FilesystemLoop)
unfolding link_target
none_left a path = refl

pub some_left : (a : Answers) (path : Text) (looks : ℕ) → 0 < looks
    → link_target looks a path ≡ (is_open_file a path >>= λ is_open. if is_open then Ok None else (linked path (a.link path) >>= onward (link_target (looks - 1) a) path))
unfolding link_target
some_left a path looks some = let one : looks ≡ suc (looks - 1) = omega arith in ap (λ n. link_target n a path) one

pub ruleset links = (none_left, some_left)
