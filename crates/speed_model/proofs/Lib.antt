mod WorkedBlocks
