-- The views of the code's values, for contracts.
use Rattle.std.specs.Prelude.{option_map}
use Rattle.json.specs.Value.{value_view}
use Rattle.n2k_encode.specs.declared.request.Request.{Request}
use Rattle.n2k_encode.specs.declared.value.Code.{Code}
use Rattle.n2k_encode.specs.declared.value.Code.TheVariants as code
use Rattle.n2k_encode.specs.Request.{RequestParts}
use Rattle.n2k_encode.specs.Value.{CodeParts, bits, bytes}

-- the parts of a request
abbrev pub request_parts : Request → RequestParts
request_parts r = record {
  stamp = r.stamp.now;
  id = r.id;
  description = option_map (λ text. text.now) r.description;
  fields = value_view r.fields.now;
}

-- the parts of a code: the bits or bytes to which a field is set
abbrev pub code_parts : Code → CodeParts
code_parts (code.Bits raw) = bits raw
code_parts (code.Bytes bs) = bytes bs.items
