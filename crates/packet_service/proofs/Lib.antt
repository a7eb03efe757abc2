mod Parts
mod Answering
mod Turning
mod Taking
mod LoadTurning
mod Hearing
