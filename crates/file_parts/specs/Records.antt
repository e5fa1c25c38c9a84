-- What a request and the record of a circuit stand for. Assumes nothing: these are definitions.
use Rattle.model.specs.Network.{Request as Asked, Circuit}
use Rattle.model.specs.Reading.{circuit_at, request}
use Rattle.file_parts.specs.declared.Request.{Request}
use Rattle.file_parts.specs.declared.CircuitRecord.{CircuitRecord}

abbrev pub asked : Request → Asked
asked r = request r.file.now

abbrev pub recorded : CircuitRecord → Circuit
recorded c = circuit_at c.request.file.now c.start
