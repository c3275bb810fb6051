-- What a line asks for, by its parts.
use Rattle.std.proofs.Common.{◌≡◌, true, codes, List, ℕ, Option, Some, refl}
use Rattle.json.specs.Json.{Json}
use Rattle.json.specs.Find.{get}
use Rattle.n2k_wire.specs.declared.identifier.Id.{Id}
use Rattle.n2k_encode.specs.Request.{members_known, fields_of, id_of, stamp_of, optional_text, request}

pub request_found : (j fields : Json) (id : Id) (stamp : List ℕ) (description : Option (List ℕ)) → members_known j ≡ true → fields_of j ≡ Some fields → id_of j ≡ Some id
    → stamp_of j ≡ Some stamp → optional_text (get (codes "description") j) ≡ Some description
    → request j ≡ Some (record { stamp = stamp; id = id; description = description; fields = fields })
unfolding request
request_found j fields id stamp description known f i s d = rw (known, f, i, s, d) refl
