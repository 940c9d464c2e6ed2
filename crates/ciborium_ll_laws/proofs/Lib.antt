mod Complete
mod OneFault
mod RefusedBytes
